-- What the answer of a load depends on.
use Rattle.std.proofs.Common.{◌≡◌, ◌≢◌, inl, inr, ℕ, zero, suc, ◌<◌, Bool, true, false, List, [], ◌∷◌, ◌++◌, refl, ◌∙◌, arith, cond}
use Rattle.std.specs.Prelude.{◌&&◌, ◌==◌, nat_lt}
use Rattle.std.proofs.lemmas.Bool.{cases_Bool, eqb-true}
use Rattle.store_laws.specs.Names.{First, Second, Segment, Snapshot, NodeFiles, NodeDisk}
use Rattle.disk_model.specs.Disk.{Leaves}
use Rattle.store_laws.specs.Store.{snap_in, Format, Meta, Snap, Log, Kept, Loaded, Damaged, NoMeta, Gap, answer, kept, segments, meta_of, sound, all_batches, behind, log_of, empty_log, has_any}
use Rattle.store_laws.specs.Settled.{Settled}
use Rattle.disk_model.proofs.Rests.{rest_only}

pub segments_same : (top : ℕ) (g r : NodeFiles) → ((k : ℕ) → k < top → g (Segment k) ≡ r (Segment k)) → segments top g ≡ segments top r
unfolding segments
segments_same zero g r same = refl
segments_same (suc n) g r same =
    let so : segments n g ≡ segments n r = segments_same n g r (λ k h. same k (omega arith)) in
    let e : g (Segment n) ≡ r (Segment n) = same n (omega arith) in
    λ i. so i ++ cond (e i).there ((e i).bytes ∷ []) []

pub kept_same : (f : Format) (top : ℕ) (g r : NodeFiles) → meta_of f g ≡ meta_of f r → snap_in f g ≡ snap_in f r → segments top g ≡ segments top r → kept f top g ≡ kept f top r
unfolding kept
kept_same f top g r m s l = λ i. answer (m i) (s i) (sound f (l i)) (all_batches f (l i))

pub meta_same : (f : Format) (g r : NodeFiles) → g First ≡ r First → g Second ≡ r Second → meta_of f g ≡ meta_of f r
unfolding meta_of
meta_same f g r a b = λ i. meta_of f (λ n. elim n [ First ↦ a i | Second ↦ b i | Segment k ↦ g (Segment k) | Snapshot k ↦ g (Snapshot k) ])

-- a folder at rest represents the same after any crash
pub settled_images : (f : Format) (top : ℕ) (d : NodeDisk) → Settled f top d → (g : NodeFiles) → Leaves d g → kept f top g ≡ kept f top d.read
settled_images f top d s g left =
    kept_same f top g d.read
    (meta_same f g d.read (rest_only _ _ _ s.first (left.each First)) (rest_only _ _ _ s.second (left.each Second)))
    (s.snap g (λ k. left.each (Snapshot k)))
    (segments_same top g d.read (λ k h. rest_only _ _ _ (s.segment k) (left.each (Segment k))))

-- a loaded answer with another term and vote
shape : (u b gap : Bool) (x y : ℕ) (K k K' : Kept) → cond u NoMeta (cond b (cond gap (Gap x y) (Loaded K)) Damaged) ≡ Loaded k → (cond b (cond gap (Gap x y) (Loaded K')) Damaged ≡ Loaded K') × (K ≡ k)
shape true b gap x y K k K' e = absurd cc
shape false false gap x y K k K' e = absurd cc
shape false true true x y K k K' e = absurd cc
shape false true false x y K k K' e = (refl, cc)

pub answer_meta : (m n : Meta) (s : Snap) (b : Bool) (bs : List Log) (k : Kept) → n.stamp ≢ 0 → answer m s b bs ≡ Loaded k → answer n s b bs ≡ Loaded (record { term = n.term; vote = n.vote; snap = k.snap; log = k.log })
unfolding answer
answer_meta m n s b bs k ne e =
    let K : Kept = record { term = m.term; vote = m.vote; snap = s; log = behind s (log_of empty_log bs) } in
    let K' : Kept = record { term = n.term; vote = n.vote; snap = s; log = behind s (log_of empty_log bs) } in
    let w = cond (has_any bs) true (nat_lt 0 s.index) in
    let gap = nat_lt (suc s.index) (log_of empty_log bs).first in
    let p = shape ((m.stamp == 0) && w) b gap (log_of empty_log bs).first s.index K k K' e in
    let z : (n.stamp == 0) ≡ false = elim (cases_Bool (n.stamp == 0)) [ inl t ↦ absurd (ne (eqb-true _ _ t)) | inr t ↦ t ] in
    (λ i. cond (z i && w) NoMeta (cond b (cond gap (Gap (log_of empty_log bs).first s.index) (Loaded K')) Damaged)) ∙ p.0
    ∙ (λ i. Loaded (record { term = n.term; vote = n.vote; snap = (p.1 i).snap; log = (p.1 i).log }))
