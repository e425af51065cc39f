-- The segments and snapshots that are listed.
use Rattle.std.proofs.Common.{◌≡◌, ℕ, zero, suc, ◌+◌, ◌<◌, Bool, true, false, cond, List, [], ◌∷◌, ◌++◌, length, refl, sym, ap, ◌∙◌, subst, arith}
use Rattle.std.specs.Prelude.{slice_index}
use Rattle.std.specs.List.{filter}
use Rattle.std.proofs.lemmas.List.{append-nil}
use Rattle.disk_model.specs.Disk.{Found}
use Rattle.store_laws.specs.Names.{Segment, Snapshot, NodeFiles, NodeDisk}
use Rattle.store_laws.specs.Snapshots.{AllBelow}
use Rattle.store_laws.specs.Written.{Replaced}
use Rattle.segment_store.specs.Open.{HaveDigits, segment_numbers, HasSnapshots}

pub same_numbers : (n : ℕ) (g h : NodeFiles) → ((j : ℕ) → j < n → (g (Segment j)).there ≡ (h (Segment j)).there) → segment_numbers n g ≡ segment_numbers n h
unfolding segment_numbers
same_numbers zero g h same = refl
same_numbers (suc n) g h same =
    let before = same_numbers n g h (λ j l. same j (omega arith)) in
    let here = same n (omega arith) in
    λ i. before i ++ cond (here i) (n ∷ []) []

pub numbers_more : (n : ℕ) (g : NodeFiles) → (g (Segment n)).there ≡ true → segment_numbers (suc n) g ≡ segment_numbers n g ++ n ∷ []
unfolding segment_numbers
numbers_more n g t = ap (λ (b : Bool). segment_numbers n g ++ cond b (n ∷ []) []) t

pub numbers_same : (n : ℕ) (g : NodeFiles) → (g (Segment n)).there ≡ false → segment_numbers (suc n) g ≡ segment_numbers n g
unfolding segment_numbers
numbers_same n g t = ap (λ (b : Bool). segment_numbers n g ++ cond b (n ∷ []) []) t ∙ append-nil (segment_numbers n g)

-- after a segment was written that is the last one now
pub numbers_written : (n : ℕ) (bytes : List ℕ) (d e : NodeDisk) → Replaced (Segment n) bytes d e → segment_numbers n d.read ++ n ∷ [] ≡ segment_numbers (suc n) e.read
numbers_written n bytes d e r =
    let below = same_numbers n e.read d.read (λ j l. ap (λ (x : Found). x.there) (r.others (Segment j) (λ q. let z : j ≡ n = cc in absurd (omega (arith, z, l))))) in
    sym (numbers_more n e.read (ap (λ (x : Found). x.there) r.here) ∙ ap (λ (ms : List ℕ). ms ++ n ∷ []) below)

pub snapshots_same : (ms : List ℕ) (g h : NodeFiles) → ((j : ℕ) → h (Snapshot j) ≡ g (Snapshot j)) → HasSnapshots ms g → HasSnapshots ms h
snapshots_same ms g h same has = λ j l. ap (λ (x : Found). x.there) (same j) ∙ has j l

-- ---- numbers of sixteen digits

below_more : (top n : ℕ) (ms : List ℕ) → AllBelow top ms → n < top → AllBelow top (ms ++ n ∷ [])
below_more top n [] all l = (l, tt)
below_more top n (m ∷ ms) all l = (all.0, below_more top n ms all.1 l)

pub below_at : (top : ℕ) (ms : List ℕ) → AllBelow top ms → (i : ℕ) → i < length ms → slice_index ms i < top
below_at top [] all i l = absurd (omega (arith, l))
below_at top (m ∷ ms) all zero l = all.0
below_at top (m ∷ ms) all (suc i) l = below_at top ms all.1 i (omega (arith, l))

pub below_passing : (top : ℕ) (test : ℕ → Bool) (ms : List ℕ) → AllBelow top ms → AllBelow top (filter test ms)
below_passing top test [] all = tt
below_passing top test (m ∷ ms) all = either (test m) (below_passing top test ms all.1)
  where
    either : (b : Bool) → AllBelow top (filter test ms) → AllBelow top (cond b (m ∷ filter test ms) (filter test ms))
    either true rest = (all.0, rest)
    either false rest = rest

pub digits_begun : (n : ℕ) (ms js all : List ℕ) → HaveDigits n ms js → n < 10000000000000000 → all ≡ ms ++ n ∷ [] → HaveDigits (n + 1) all js
digits_begun n ms js all was l e = (omega (arith, l), (subst (AllBelow 10000000000000000) (sym e) (below_more 10000000000000000 n ms was.1.0 l), was.1.1))
