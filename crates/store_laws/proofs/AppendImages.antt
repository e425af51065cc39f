-- What the whole folder represents, once it is known what the segment that grows reads as.
use Rattle.std.proofs.Common.{◌≡◌, ◌≢◌, inl, inr, ℕ, suc, ◌≤◌, ◌<◌, true, List, [], ◌∷◌, ◌++◌, refl, sym, ap, ◌∙◌, subst, arith, append_assoc}
use Rattle.store_laws.specs.Names.{Name, First, Second, Segment, Snapshot, NodeFiles, NodeDisk}
use Rattle.disk_model.specs.Disk.{Found, LeavesFile, Leaves}
use Rattle.store_laws.specs.Store.{snap_in, Format, Snap, Log, Kept, Loaded, answer, kept, meta_of, segments, sound, all_batches, behind, log_of, empty_log}
use Rattle.store_laws.specs.Settled.{file_log}
use Rattle.store_laws.specs.Append.{with_log, Takes}
use Rattle.store_laws.specs.Load.{Still}
use Rattle.store_laws.specs.Laws.{OneOf}
use Rattle.store_laws.specs.Chance.{Lawful}
use Rattle.disk_model.proofs.Rests.{rest_only, rest_left}
use Rattle.disk_model.proofs.Elsewhere.{Elsewhere}
use Rattle.store_laws.proofs.Answers.{segments_same, meta_same}
use Rattle.store_laws.proofs.Logs.{log_push}
use Rattle.store_laws.proofs.Folders.{part, segments_suc, all_append, sound_last, kept_by, Parts, answer_parts, answer_is, answer_stamp}

-- what the growing segment holds: the batches that it held, or one more
pub data Grows (f : Format) (r : Found) (b : Log) (x : Found) : Type 0 where
  before : all_batches f (part x) ≡ all_batches f (part r) → Grows f r b x
  after : all_batches f (part x) ≡ all_batches f (part r) ++ b ∷ [] → Grows f r b x

loaded_answer : (f : Format) (k : ℕ) (d : NodeDisk) → Still f k d → (old : Kept) → kept f (suc k) d.read ≡ Loaded old → answer (meta_of f d.read) (snap_in f d.read) true (all_batches f (segments (suc k) d.read)) ≡ Loaded old
loaded_answer f k d s old is_old =
    let sd : sound f (segments (suc k) d.read) ≡ true = ap (sound f) (segments_suc k d.read) ∙ sound_last f k d.read s.below (d.read (Segment k)) in
    sym (kept_by f (suc k) d.read (meta_of f d.read) (snap_in f d.read) true _ refl refl sd refl) ∙ is_old

pub loaded_parts : (f : Format) → Lawful f → (k : ℕ) (d : NodeDisk) → Still f k d → (old : Kept) → kept f (suc k) d.read ≡ Loaded old → Parts (meta_of f d.read) (snap_in f d.read) (all_batches f (segments (suc k) d.read)) old
loaded_parts f law k d s old is_old = answer_parts (meta_of f d.read) (snap_in f d.read) true _ old (loaded_answer f k d s old is_old)

pub loaded_stamp : (f : Format) (k : ℕ) (d : NodeDisk) → Still f k d → (old : Kept) → kept f (suc k) d.read ≡ Loaded old → 0 < (snap_in f d.read).index → (meta_of f d.read).stamp ≢ 0
loaded_stamp f k d s old is_old pos = answer_stamp (meta_of f d.read) (snap_in f d.read) true _ old pos (loaded_answer f k d s old is_old)

module _ (f : Format) (law : Lawful f) (k : ℕ) (d : NodeDisk) (s : Still f k d) (old : Kept) (is_old : kept f (suc k) d.read ≡ Loaded old) (b new : Log) (stamp : (meta_of f d.read).stamp ≢ 0) (takes : Takes (snap_in f d.read) (file_log f (suc k) d.read) b new) where
  others : (g : NodeFiles) (e : NodeDisk) → Elsewhere (Segment k) d e → ((m : Name) → (m ≡ Segment k → ⊥) → LeavesFile (e.held m) (g m)) → segments k g ≡ segments k d.read
  others g e so left = segments_same k g d.read (λ j h.
      let a = λ (q : Segment j ≡ Segment k). let z : j ≡ k = cc in absurd (omega arith) in
      rest_only _ _ _ (s.segment j) (so.left (Segment j) a (rest_left _ _ (s.segment j)) _ (left (Segment j) a)))

  abbrev bs : List Log
  bs = all_batches f (segments (suc k) d.read)

  abbrev snap : Snap
  snap = snap_in f d.read

  split : (g : NodeFiles) → segments k g ≡ segments k d.read → all_batches f (segments (suc k) g) ≡ all_batches f (segments k d.read) ++ all_batches f (part (g (Segment k)))
  split g e = ap (all_batches f) (segments_suc k g ∙ ap (λ (l : List (List ℕ)). l ++ part (g (Segment k))) e) ∙ all_append f (segments k d.read) (part (g (Segment k)))

  sounds : (g : NodeFiles) → segments k g ≡ segments k d.read → sound f (segments (suc k) g) ≡ true
  sounds g e = ap (sound f) (segments_suc k g ∙ ap (λ (l : List (List ℕ)). l ++ part (g (Segment k))) e) ∙ sound_last f k d.read s.below (g (Segment k))

  as_answer : answer (meta_of f d.read) snap true bs ≡ Loaded old
  as_answer = sym (kept_by f (suc k) d.read (meta_of f d.read) snap true bs refl refl (sounds d.read refl) refl) ∙ is_old

  parts : Parts (meta_of f d.read) snap bs old
  parts = answer_parts (meta_of f d.read) snap true bs old as_answer

  with_it : answer (meta_of f d.read) snap true (bs ++ b ∷ []) ≡ Loaded (with_log new old)
  with_it =
      let p = parts.is in
      let push : log_of empty_log (bs ++ b ∷ []) ≡ _ = log_push empty_log bs b in
      answer_is (meta_of f d.read) snap (bs ++ b ∷ []) (subst (λ (l : Log). l.first ≤ suc snap.index) (sym push) takes.no_gap) stamp
      ∙ (λ i. Loaded (record { term = (meta_of f d.read).term; vote = (meta_of f d.read).vote; snap = snap; log = behind snap (push i) }))
      ∙ (λ i. Loaded (record { term = (meta_of f d.read).term; vote = (meta_of f d.read).vote; snap = snap; log = takes.log i }))
      ∙ ap (λ (x : Kept). Loaded (with_log new x)) (sym p)

  pub all_after : (g : NodeFiles) → segments k g ≡ segments k d.read → all_batches f (part (g (Segment k))) ≡ all_batches f (part (d.read (Segment k))) ++ b ∷ [] → all_batches f (segments (suc k) g) ≡ bs ++ b ∷ []
  all_after g e q =
      split g e ∙ ap (λ (l : List Log). all_batches f (segments k d.read) ++ l) q
      ∙ sym (append_assoc (all_batches f (segments k d.read)) (all_batches f (part (d.read (Segment k)))) (b ∷ []))
      ∙ ap (λ (l : List Log). l ++ b ∷ []) (sym (split d.read refl))

  pub folder_new : (g : NodeFiles) → meta_of f g ≡ meta_of f d.read → snap_in f g ≡ snap → segments k g ≡ segments k d.read → all_batches f (part (g (Segment k))) ≡ all_batches f (part (d.read (Segment k))) ++ b ∷ [] → kept f (suc k) g ≡ Loaded (with_log new old)
  folder_new g m n e q = kept_by f (suc k) g (meta_of f d.read) snap true (bs ++ b ∷ []) m n (sounds g e) (all_after g e q) ∙ with_it

  -- the folder, with everything but that segment as it was
  pub folder : (g : NodeFiles) → meta_of f g ≡ meta_of f d.read → snap_in f g ≡ snap → segments k g ≡ segments k d.read → Grows f (d.read (Segment k)) b (g (Segment k)) → OneOf f (suc k) old (with_log new old) g
  folder g m n e (before q) =
      inl (kept_by f (suc k) g (meta_of f d.read) snap true bs m n (sounds g e) (split g e ∙ ap (λ (l : List Log). all_batches f (segments k d.read) ++ l) q ∙ sym (split d.read refl)) ∙ as_answer)
  folder g m n e (after q) = inr (folder_new g m n e q)

  -- a crash image of which only that segment isn't known
  pub image : (e : NodeDisk) (g : NodeFiles) → Elsewhere (Segment k) d e → Leaves e g → Grows f (d.read (Segment k)) b (g (Segment k)) → OneOf f (suc k) old (with_log new old) g
  image e g so left grows =
      let one : g First ≡ d.read First = rest_only _ _ _ s.first (so.left First (λ q. absurd cc) (rest_left _ _ s.first) _ (left.each First)) in
      let two : g Second ≡ d.read Second = rest_only _ _ _ s.second (so.left Second (λ q. absurd cc) (rest_left _ _ s.second) _ (left.each Second)) in
      let snaps : snap_in f g ≡ snap = s.snap g (λ j. so.left (Snapshot j) (λ q. absurd cc) (s.snap_read j) _ (left.each (Snapshot j))) in
      folder g (meta_same f g d.read one two) snaps (others g e so (λ m a. left.each m)) grows
