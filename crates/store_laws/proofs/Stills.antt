-- A disk at rest except for its last segment.
use Rattle.std.proofs.Common.{◌≡◌, ◌≤◌, inl, inr, ℕ, suc, ◌<◌, true, List, ◌++◌, refl, sym, ap, ◌∙◌, subst, arith}
use Rattle.std.proofs.lemmas.Bool.{cases_eq}
use Rattle.store_laws.specs.Names.{First, Second, Segment, Snapshot, NodeFiles, NodeDisk}
use Rattle.disk_model.specs.Disk.{Found, Leaves}
use Rattle.store_laws.specs.Store.{log_of, empty_log, Snap, snap_in, newest_snap, Format, Log, kept, meta_of, segments, sound, all_batches, is_whole}
use Rattle.disk_model.specs.Rest.{Rest}
use Rattle.store_laws.specs.Load.{Still}
use Rattle.store_laws.specs.Settled.{file_log}
use Rattle.disk_model.proofs.Rests.{rest_only, rest_left}
use Rattle.disk_model.proofs.Elsewhere.{Elsewhere}
use Rattle.store_laws.proofs.Answers.{segments_same, meta_same}
use Rattle.store_laws.proofs.Folders.{part, segments_suc, all_append, sound_last, kept_by}

module _ (f : Format) (k : ℕ) (d : NodeDisk) (s : Still f k d) where
  others : (j : ℕ) → (j < k) → Segment j ≡ Segment k → ⊥
  others j h q = let z : j ≡ k = cc in absurd (omega arith)

  -- the files that have the same batches in segment k
  pub files_same : (g : NodeFiles) → meta_of f g ≡ meta_of f d.read → snap_in f g ≡ snap_in f d.read → segments k g ≡ segments k d.read → all_batches f (part (g (Segment k))) ≡ all_batches f (part (d.read (Segment k)))
      → kept f (suc k) g ≡ kept f (suc k) d.read
  files_same g m n e q =
      kept_by f (suc k) g (meta_of f d.read) (snap_in f d.read) true (all_batches f (segments (suc k) d.read)) m n (sounds g e) (split g e ∙ ap (λ (l : List Log). all_batches f (segments k d.read) ++ l) q ∙ sym (split d.read refl))
      ∙ sym (kept_by f (suc k) d.read (meta_of f d.read) (snap_in f d.read) true (all_batches f (segments (suc k) d.read)) refl refl (sounds d.read refl) refl)
    where
      split : (g : NodeFiles) → segments k g ≡ segments k d.read → all_batches f (segments (suc k) g) ≡ all_batches f (segments k d.read) ++ all_batches f (part (g (Segment k)))
      split g e = ap (all_batches f) (segments_suc k g ∙ ap (λ (l : List (List ℕ)). l ++ part (g (Segment k))) e) ∙ all_append f (segments k d.read) (part (g (Segment k)))

      sounds : (g : NodeFiles) → segments k g ≡ segments k d.read → sound f (segments (suc k) g) ≡ true
      sounds g e = ap (sound f) (segments_suc k g ∙ ap (λ (l : List (List ℕ)). l ++ part (g (Segment k))) e) ∙ sound_last f k d.read s.below (g (Segment k))

  pub image_same : (e : NodeDisk) (g : NodeFiles) → Elsewhere (Segment k) d e → Leaves e g → all_batches f (part (g (Segment k))) ≡ all_batches f (part (d.read (Segment k))) → kept f (suc k) g ≡ kept f (suc k) d.read
  image_same e g so left q =
      let one : g First ≡ d.read First = rest_only _ _ _ s.first (so.left First (λ q. absurd cc) (rest_left _ _ s.first) _ (left.each First)) in
      let two : g Second ≡ d.read Second = rest_only _ _ _ s.second (so.left Second (λ q. absurd cc) (rest_left _ _ s.second) _ (left.each Second)) in
      files_same g (meta_same f g d.read one two) (s.snap g (λ j. so.left (Snapshot j) (λ q. absurd cc) (s.snap_read j) _ (left.each (Snapshot j))))
      (segments_same k g d.read (λ j h. rest_only _ _ _ (s.segment j) (so.left (Segment j) (others j h) (rest_left _ _ (s.segment j)) _ (left.each (Segment j))))) q

  pub read_same : (e : NodeDisk) → Elsewhere (Segment k) d e → all_batches f (part (e.read (Segment k))) ≡ all_batches f (part (d.read (Segment k))) → kept f (suc k) e.read ≡ kept f (suc k) d.read
  read_same e so q =
      files_same e.read (meta_same f e.read d.read (so.read First (λ q. absurd cc)) (so.read Second (λ q. absurd cc)))
      (λ i. newest_snap f.snap f.numbers (λ j. so.read (Snapshot j) (λ q. absurd cc) i)) (segments_same k e.read d.read (λ j h. so.read (Segment j) (others j h))) q

  pub snaps_same : (e : NodeDisk) → Elsewhere (Segment k) d e → snap_in f e.read ≡ snap_in f d.read
  snaps_same e so = (λ i. newest_snap f.snap f.numbers (λ j. so.read (Snapshot j) (λ q. absurd cc) i))

  pub log_same : (e : NodeDisk) → Elsewhere (Segment k) d e → all_batches f (part (e.read (Segment k))) ≡ all_batches f (part (d.read (Segment k))) → file_log f (suc k) e.read ≡ file_log f (suc k) d.read
  log_same e so q =
      ap (log_of empty_log) (all e.read (segments_same k e.read d.read (λ j h. so.read (Segment j) (others j h))) ∙ ap (λ (l : List Log). all_batches f (segments k d.read) ++ l) q ∙ sym (all d.read refl))
    where
      all : (g : NodeFiles) → segments k g ≡ segments k d.read → all_batches f (segments (suc k) g) ≡ all_batches f (segments k d.read) ++ all_batches f (part (g (Segment k)))
      all g e = ap (all_batches f) (segments_suc k g ∙ ap (λ (l : List (List ℕ)). l ++ part (g (Segment k))) e) ∙ all_append f (segments k d.read) (part (g (Segment k)))

  pub still_on : (e : NodeDisk) → Elsewhere (Segment k) d e → Rest (e.held (Segment k)) (e.read (Segment k)) → Still f k e
  still_on e so here =
      let snaps : snap_in f e.read ≡ snap_in f d.read = (λ i. newest_snap f.snap f.numbers (λ j. so.read (Snapshot j) (λ q. absurd cc) i)) in
      record {
        first = so.rest First (λ q. absurd cc) s.first;
        second = so.rest Second (λ q. absurd cc) s.second;
        segment = λ j. elim (cases_eq j k) [
          | inl q ↦ subst (λ (i : ℕ). Rest (e.held (Segment i)) (e.read (Segment i))) (sym q) here
          | inr ne ↦ so.rest (Segment j) (λ q. let z : j ≡ k = cc in ne z) (s.segment j)
        ];
        above = λ j h. ap (λ (x : Found). x.there) (so.read (Segment j) (λ q. let z : j ≡ k = cc in absurd (omega arith))) ∙ s.above j h;
        below = λ j h. subst (λ (x : Found). x.there ≡ true → is_whole f x.bytes ≡ true) (sym (so.read (Segment j) (others j h))) (s.below j h);
        snap_read = λ j. so.seen (Snapshot j) (λ q. absurd cc) (s.snap_read j);
        snap_rest = λ j h. so.rest (Snapshot j) (λ q. absurd cc) (s.snap_rest j (subst (λ (x : Snap). x.index ≤ j) snaps h));
        snap = λ g left. s.snap g (λ j. so.left (Snapshot j) (λ q. absurd cc) (s.snap_read j) _ (left j)) ∙ sym snaps;
      }
