-- A snapshot's file is written: the state before, or the new snapshot with the log after it.
use Rattle.std.proofs.Common.{◌≡◌, ◌≢◌, ◌⊎◌, inl, inr, ℕ, suc, ◌≤◌, ◌<◌, true, List, [], ◌++◌, length, drop, take, sym, ap, ◌∙◌, subst, arith}
use Rattle.std.proofs.lemmas.List.{take-append-drop, append-nil}
use Rattle.std.proofs.lemmas.Bool.{cases_eq}
use Rattle.disk_model.specs.Disk.{Found, LeavesFile, Leaves}
use Rattle.disk_model.specs.Rest.{Rest}
use Rattle.store_laws.specs.Names.{First, Second, Segment, Snapshot, NodeFiles, NodeDisk}
use Rattle.store_laws.specs.Store.{Format, Snap, Log, Kept, Loaded, kept, meta_of, segments, sound, all_batches, behind, snap_in, snap_files, is_whole}
use Rattle.store_laws.specs.Settled.{Settled, file_log}
use Rattle.store_laws.specs.Load.{Still}
use Rattle.store_laws.specs.Chance.{Lawful, NoChance}
use Rattle.store_laws.specs.Snapshots.{Stays, IsLonger}
use Rattle.disk_model.proofs.Rests.{rest_only, rest_left}
use Rattle.disk_model.proofs.Elsewhere.{Elsewhere}
use Rattle.store_laws.proofs.Answers.{segments_same, meta_same, kept_same}
use Rattle.store_laws.proofs.Folders.{segments_suc, sound_last, kept_by, answer_is}
use Rattle.store_laws.proofs.Snaps.{same_newest, newest_at, none_above, snap_images}
use Rattle.store_laws.proofs.SnapshotLaw.{before_batch, left_before}
use Rattle.store_laws.proofs.SnapshotFile.{SnapMoment, SnapEnded}

module _ (f : Format) (law : Lawful f) (k : ℕ) (d : NodeDisk) (sd : Settled f (suc k) d) (gap : (file_log f (suc k) d.read).first ≤ suc (snap_in f d.read).index) (stamp : (meta_of f d.read).stamp ≢ 0)
    (s : Snap) (enc : List ℕ) (past : (snap_in f d.read).index < s.index) (within : s.index < f.numbers) (reads : f.snap s.index enc ≡ s) where
  abbrev L : Log
  L = file_log f (suc k) d.read

  abbrev t : Snap
  t = snap_in f d.read

  -- what the files represent with the new snapshot and the old batches
  abbrev pub behind_it : Kept
  behind_it = record { term = (meta_of f d.read).term; vote = (meta_of f d.read).vote; snap = s; log = behind s L }

  positive : s.index ≢ 0
  positive z = absurd (omega arith)

  index_reads : (f.snap s.index enc).index ≡ s.index
  index_reads = ap (λ (x : Snap). x.index) reads

  not_whole : (f.snap s.index (d.read (Snapshot s.index)).bytes).index ≡ 0
  not_whole = none_above f.snap law.snap_number f.numbers s.index (snap_files d.read) within past

  at_rest : Rest (d.held (Snapshot s.index)) (d.read (Snapshot s.index))
  at_rest = sd.snap_rest s.index (omega arith)

  -- bytes of the file that a crash left whole are the new ones
  front_is_all : (x : List ℕ) → (f.snap s.index x).index ≢ 0 → take (length x) enc ≡ x → f.snap s.index x ≡ s
  front_is_all x ne front =
      let e : enc ≡ x ++ drop (length x) enc = sym (take-append-drop (length x) enc) ∙ ap (λ (l : List ℕ). l ++ drop (length x) enc) front in
      let some : (f.snap s.index (x ++ drop (length x) enc)).index ≢ 0 = λ z. positive (sym index_reads ∙ ap (λ (l : List ℕ). (f.snap s.index l).index) e ∙ z) in
      let nil : drop (length x) enc ≡ [] = law.snap_exact s.index x (drop (length x) enc) ne some in
      ap (f.snap s.index) (sym (e ∙ ap (λ (l : List ℕ). x ++ l) nil ∙ append-nil x)) ∙ reads

  file_reads : (e : NodeDisk) (g : NodeFiles) → SnapMoment (Snapshot s.index) enc d e → NoChance f e g → ((f.snap s.index (g (Snapshot s.index)).bytes).index ≡ 0) ⊎ (f.snap s.index (g (Snapshot s.index)).bytes ≡ s)
  file_reads e g mo fair = elim (cases_eq (f.snap s.index (g (Snapshot s.index)).bytes).index 0) [
    | inl z ↦ inl z
    | inr ne ↦ elim ((fair.snapshot s.index).whole ne) [
      | inl q ↦ elim mo.stage.bytes [
        | inl h ↦ inl (ap (λ (c : List ℕ). (f.snap s.index c).index) (q ∙ h ∙ at_rest.bytes) ∙ not_whole)
        | inr h ↦ inr (ap (f.snap s.index) (q ∙ h) ∙ reads)
      ]
      | inr w ↦ inr (front_is_all (g (Snapshot s.index)).bytes ne (mo.stage.wrote _ w))
    ]
  ]

  other_name : (n : ℕ) → n ≢ s.index → Snapshot n ≡ Snapshot s.index → ⊥
  other_name n ne q = let z : n ≡ s.index = cc in ne z

  others : (e : NodeDisk) (g : NodeFiles) → Elsewhere (Snapshot s.index) d e → Leaves e g → (n : ℕ) → t.index ≤ n → n ≢ s.index → g (Snapshot n) ≡ d.read (Snapshot n)
  others e g so left n h ne =
      let r = sd.snap_rest n h in
      rest_only _ _ _ r (so.left (Snapshot n) (other_name n ne) (rest_left _ _ r) _ (left.each (Snapshot n)))

  snaps_none : (g : NodeFiles) → ((n : ℕ) → t.index ≤ n → n ≢ s.index → g (Snapshot n) ≡ d.read (Snapshot n)) → (f.snap s.index (g (Snapshot s.index)).bytes).index ≡ 0 → snap_in f g ≡ t
  snaps_none g same z = same_newest f.snap law.snap_number f.numbers (snap_files d.read) (snap_files g) (λ n h l. elim (cases_eq n s.index) [
    | inl q ↦ subst (λ (i : ℕ). f.snap i (g (Snapshot i)).bytes ≡ f.snap i (d.read (Snapshot i)).bytes) (sym q) (law.snap_none _ _ z ∙ sym (law.snap_none _ _ not_whole))
    | inr ne ↦ ap (λ (x : Found). f.snap n x.bytes) (same n h ne)
  ])

  snaps_new : (g : NodeFiles) → ((n : ℕ) → t.index ≤ n → n ≢ s.index → g (Snapshot n) ≡ d.read (Snapshot n)) → f.snap s.index (g (Snapshot s.index)).bytes ≡ s → snap_in f g ≡ s
  snaps_new g same q =
      newest_at f.snap law.snap_number f.numbers s.index (snap_files g) within (λ z. positive (sym (ap (λ (x : Snap). x.index) q) ∙ z))
      (λ n h l. ap (λ (x : Found). (f.snap n x.bytes).index) (same n (omega arith) (λ z. absurd (omega arith))) ∙ none_above f.snap law.snap_number f.numbers n (snap_files d.read) l (omega arith)) ∙ q

  sound_now : sound f (segments (suc k) d.read) ≡ true
  sound_now = ap (sound f) (segments_suc k d.read) ∙ sound_last f k d.read (λ j h. sd.whole j) (d.read (Segment k))

  pub with_new : (g : NodeFiles) → meta_of f g ≡ meta_of f d.read → snap_in f g ≡ s → segments (suc k) g ≡ segments (suc k) d.read → kept f (suc k) g ≡ Loaded behind_it
  with_new g em es el =
      kept_by f (suc k) g (meta_of f d.read) s true (all_batches f (segments (suc k) d.read)) em es (ap (sound f) el ∙ sound_now) (ap (all_batches f) el)
      ∙ answer_is (meta_of f d.read) s (all_batches f (segments (suc k) d.read)) (omega arith) stamp

  module _ (new : Log) (stays : Stays s (behind t L) new) (old : Kept) (is_old : kept f (suc k) d.read ≡ Loaded old) where
    -- an image at a moment of the file's writing
    pub file_image : (e : NodeDisk) (g : NodeFiles) → SnapMoment (Snapshot s.index) enc d e → Leaves e g → NoChance f e g
        → (kept f (suc k) g ≡ Loaded old) ⊎ IsLonger f (suc k) g (meta_of f d.read).term (meta_of f d.read).vote s (behind t L) new
    file_image e g mo left fair =
        let so = mo.elsewhere in
        let one : g First ≡ d.read First = rest_only _ _ _ sd.first (so.left First (λ q. absurd cc) (rest_left _ _ sd.first) _ (left.each First)) in
        let two : g Second ≡ d.read Second = rest_only _ _ _ sd.second (so.left Second (λ q. absurd cc) (rest_left _ _ sd.second) _ (left.each Second)) in
        let metas = meta_same f g d.read one two in
        let segs : segments (suc k) g ≡ segments (suc k) d.read = segments_same (suc k) g d.read (λ j h. rest_only _ _ _ (sd.segment j) (so.left (Segment j) (λ q. absurd cc) (rest_left _ _ (sd.segment j)) _ (left.each (Segment j)))) in
        let same = others e g so left in
        elim (file_reads e g mo fair) [
          | inl z ↦ inl (kept_same f (suc k) g d.read metas (snaps_none g same z) segs ∙ is_old)
          | inr q ↦ inr (record { log = behind s L; kept_is = with_new g metas (snaps_new g same q) segs; longer = before_batch t s past L new sd.steady stays; left = left_before t s past L new sd.steady stays })
        ]

  -- the disk once the file is written and synced
  module _ (e : NodeDisk) (z : SnapEnded (Snapshot s.index) enc d e) where
    reads_same : (n : ℕ) → t.index ≤ n → n ≢ s.index → e.read (Snapshot n) ≡ d.read (Snapshot n)
    reads_same n h ne = z.elsewhere.read (Snapshot n) (other_name n ne)

    pub file_snaps : snap_in f e.read ≡ s
    file_snaps = snaps_new e.read reads_same (ap (λ (x : Found). f.snap s.index x.bytes) z.read ∙ reads)

    pub file_metas : meta_of f e.read ≡ meta_of f d.read
    file_metas = meta_same f e.read d.read (z.elsewhere.read First (λ q. absurd cc)) (z.elsewhere.read Second (λ q. absurd cc))

    pub file_segment : (j : ℕ) → e.read (Segment j) ≡ d.read (Segment j)
    file_segment j = z.elsewhere.read (Segment j) (λ q. absurd cc)

    pub file_segments : segments (suc k) e.read ≡ segments (suc k) d.read
    file_segments = segments_same (suc k) e.read d.read (λ j h. file_segment j)

    file_rest : (j : ℕ) → (snap_in f e.read).index ≤ j → Rest (e.held (Snapshot j)) (e.read (Snapshot j))
    file_rest j h =
        let low : s.index ≤ j = subst (λ (x : Snap). x.index ≤ j) file_snaps h in
        elim (cases_eq j s.index) [
          | inl q ↦ subst (λ (i : ℕ). Rest (e.held (Snapshot i)) (e.read (Snapshot i))) (sym q) z.rest
          | inr ne ↦ z.elsewhere.rest (Snapshot j) (other_name j ne) (sd.snap_rest j (omega arith))
        ]

    pub file_still : Still f k e
    file_still = record {
      first = z.elsewhere.rest First (λ q. absurd cc) sd.first;
      second = z.elsewhere.rest Second (λ q. absurd cc) sd.second;
      segment = λ j. z.elsewhere.rest (Segment j) (λ q. absurd cc) (sd.segment j);
      above = λ j h. ap (λ (x : Found). x.there) (file_segment j) ∙ sd.above j (omega arith);
      below = λ j h. subst (λ (x : Found). x.there ≡ true → is_whole f x.bytes ≡ true) (sym (file_segment j)) (sd.whole j);
      snap_read = λ j. elim (cases_eq j s.index) [
        | inl q ↦ subst (λ (i : ℕ). LeavesFile (e.held (Snapshot i)) (e.read (Snapshot i))) (sym q) (rest_left _ _ z.rest)
        | inr ne ↦ z.elsewhere.seen (Snapshot j) (other_name j ne) (sd.snap_read j)
      ];
      snap = snap_images f law e file_rest;
      snap_rest = file_rest;
    }
