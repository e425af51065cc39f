-- The calls of a load are counted, one after another.
use Rattle.std.proofs.Common.{◌≡◌, ℕ, zero, suc, ◌+◌, ◌-◌, ◌*◌, ◌<◌, ◌≤◌, Bool, true, false, List, [], ◌++◌, length, take, drop, Result, Ok, Err, refl, sym, ap, ◌∙◌, subst, arith, length-append, length-drop}
use Rattle.std.specs.Prelude.{◌/◌, min}
use Rattle.std.proofs.lemmas.List.{length-take-le, take_at}
use Rattle.dq_base.specs.Faults.{one_more}
use Rattle.disk_model.specs.Disk.{Disk}
use Rattle.disk_model.specs.Trait.{Text, Reads, MakesCalls, after_calls}
use Rattle.disk_model.proofs.Counting.{after_more}
use Rattle.segment_store.specs.LoadCounts.{Counts, reads_for}
use Rattle.segment_store.specs.Loading.{Sees}
use Rattle.segment_store.specs.Reads.{ReadsPiece}
use Rattle.segment_store.proofs.LoadSees.{Reading}
use Rattle.segment_store.proofs.LoadReads.{Stays}

-- ---- numbers of calls

-- no more calls before an Err
pub within_err : {S T E F : Type 0} (a b before now : ℕ) (x : E) (y : F) → a ≤ b → MakesCalls {T = S} {E = E} a before now (Err x) → MakesCalls {T = T} {E = F} b before now (Err y)
within_err a b before now x y l c = let z = c.within in record { made = c.made; within = omega (arith, z, l); counted = c.counted; all = tt }

pub within_ok : {S T E F : Type 0} (a b before now : ℕ) (x : S) (y : F) → a ≤ b → MakesCalls {T = S} {E = E} a before now (Ok x) → MakesCalls {T = T} {E = F} b before now (Err y)
within_ok a b before now x y l c = let z = c.within in record { made = c.made; within = omega (arith, z, l); counted = c.counted; all = tt }

pub exactly : {S T E F : Type 0} (a b before now : ℕ) (x : S) (y : T) → b ≡ a → MakesCalls {T = S} {E = E} a before now (Ok x) → MakesCalls {T = T} {E = F} b before now (Ok y)
exactly a b before now x y e c = let z = c.within in record { made = c.made; within = omega (arith, z, e); counted = c.counted; all = c.all ∙ sym e }

-- calls, and then others
pub then_err : {S T U E F G : Type 0} (a b all before mid now : ℕ) (x : S) (e : F) (y : G) → a + b ≤ all → MakesCalls {T = S} {E = E} a before mid (Ok x) → MakesCalls {T = T} {E = F} b mid now (Err e) → MakesCalls {T = U} {E = G} all before now (Err y)
then_err a b all before mid now x e y l c d =
    let first = c.within in
    let second = d.within in
    record { made = c.made + d.made; within = omega (arith, first, second, l); counted = d.counted ∙ ap (after_calls d.made) c.counted ∙ sym (after_more c.made d.made before); all = tt }

pub then_ok : {S T U E F G : Type 0} (a b all before mid now : ℕ) (x : S) (z : T) (y : U) → all ≡ a + b → MakesCalls {T = S} {E = E} a before mid (Ok x) → MakesCalls {T = T} {E = F} b mid now (Ok z) → MakesCalls {T = U} {E = G} all before now (Ok y)
then_ok a b all before mid now x z y is c d =
    let first : c.made ≡ a = c.all in
    let second : d.made ≡ b = d.all in
    record { made = c.made + d.made; within = omega (arith, first, second, is); counted = d.counted ∙ ap (after_calls d.made) c.counted ∙ sym (after_more c.made d.made before); all = omega (arith, first, second, is) }

-- ---- the same by what was on the disk

pub counts_refused : {T E : Type 0} (c : Disk Text → ℕ) (s : Disk Text → Type 0) (made : ℕ) (y : E) → Counts {T = T} c s made made (Err y)
counts_refused c s made y = record { each = λ d b. record { made = 0; within = omega arith; counted = refl; all = tt } }

pub counts_nothing : {T E : Type 0} (c : Disk Text → ℕ) (s : Disk Text → Type 0) (made : ℕ) (x : T) → ((d : Disk Text) → c d ≡ 0) → Counts {E = E} c s made made (Ok x)
counts_nothing c s made x none = record { each = λ d b. record { made = 0; within = omega arith; counted = refl; all = sym (none d) } }

-- one call
pub counts_one : {T E : Type 0} (s : Disk Text → Type 0) (made now : ℕ) (result : Result T E) → now ≡ one_more made → Counts (λ d. 1) s made now result
counts_one s made now (Ok x) e = record { each = λ d b. record { made = 1; within = omega arith; counted = e; all = refl } }
counts_one s made now (Err x) e = record { each = λ d b. record { made = 1; within = omega arith; counted = e; all = tt } }

pub counts_err : {S T E F : Type 0} (a c : Disk Text → ℕ) (s : Disk Text → Type 0) (made now : ℕ) (x : E) (y : F) → ((d : Disk Text) → a d ≤ c d) → Counts {T = S} a s made now (Err x) → Counts {T = T} c s made now (Err y)
counts_err a c s made now x y l k = record { each = λ d b. within_err (a d) (c d) made now x y (l d) (k.each d b) }

pub counts_stop : {S T E F : Type 0} (a c : Disk Text → ℕ) (s : Disk Text → Type 0) (made now : ℕ) (x : S) (y : F) → ((d : Disk Text) → a d ≤ c d) → Counts {E = E} a s made now (Ok x) → Counts {T = T} c s made now (Err y)
counts_stop a c s made now x y l k = record { each = λ d b. within_ok (a d) (c d) made now x y (l d) (k.each d b) }

pub counts_ok : {S T E F : Type 0} (a c : Disk Text → ℕ) (s : Disk Text → Type 0) (made now : ℕ) (x : S) (y : T) → ((d : Disk Text) → c d ≡ a d) → Counts {E = E} a s made now (Ok x) → Counts {E = F} c s made now (Ok y)
counts_ok a c s made now x y e k = record { each = λ d b. exactly (a d) (c d) made now x y (e d) (k.each d b) }

-- calls that only read, and then others
pub counts_then_err : {S T U E F G : Type 0} (a b c : Disk Text → ℕ) (s t : Disk Text → Type 0) (made mid now : ℕ) (x : S) (e : F) (y : G) (P : Disk Text → S → Type 0) → Sees {E = E} s t (Ok x) P → ((d : Disk Text) → P d x → a d + b d ≤ c d)
    → Counts {T = S} {E = E} a s made mid (Ok x) → Counts {T = T} b t mid now (Err e) → Counts {T = U} c s made now (Err y)
counts_then_err a b c s t made mid now x e y P sees l k m = record { each = λ d w. let z = sees.each d w in then_err (a d) (b d) (c d) made mid now x e y (l d z.1) (k.each d w) (m.each d z.0) }

pub counts_then_ok : {S T U E F G : Type 0} (a b c : Disk Text → ℕ) (s t : Disk Text → Type 0) (made mid now : ℕ) (x : S) (z : T) (y : U) (P : Disk Text → S → Type 0) → Sees {E = E} s t (Ok x) P → ((d : Disk Text) → P d x → c d ≡ a d + b d)
    → Counts {T = S} {E = E} a s made mid (Ok x) → Counts {E = F} b t mid now (Ok z) → Counts {E = G} c s made now (Ok y)
counts_then_ok a b c s t made mid now x z y P sees is k m = record { each = λ d w. let v = sees.each d w in then_ok (a d) (b d) (c d) made mid now x z y (is d v.1) (k.each d w) (m.each d v.0) }

-- the same where nothing is shown
pub stays_err : {S T U E F G : Type 0} (a b c : Disk Text → ℕ) (s t : Disk Text → Type 0) (made mid now : ℕ) (x : S) (e : F) (y : G) → Stays s t → ((d : Disk Text) → a d + b d ≤ c d)
    → Counts {T = S} {E = E} a s made mid (Ok x) → Counts {T = T} b t mid now (Err e) → Counts {T = U} c s made now (Err y)
stays_err a b c s t made mid now x e y stays l k m = record { each = λ d w. then_err (a d) (b d) (c d) made mid now x e y (l d) (k.each d w) (m.each d (stays.each d w)) }

pub stays_ok : {S T U E F G : Type 0} (a b c : Disk Text → ℕ) (s t : Disk Text → Type 0) (made mid now : ℕ) (x : S) (z : T) (y : U) → Stays s t → ((d : Disk Text) → c d ≡ a d + b d)
    → Counts {T = S} {E = E} a s made mid (Ok x) → Counts {E = F} b t mid now (Ok z) → Counts {E = G} c s made now (Ok y)
stays_ok a b c s t made mid now x z y stays is k m = record { each = λ d w. then_ok (a d) (b d) (c d) made mid now x z y (is d) (k.each d w) (m.each d (stays.each d w)) }

-- ---- a file, piece by piece

pub piece_none : (room : ℕ) (all before into now : List ℕ) (n : ℕ) → Reads all (length before) into now n → 0 < length into → n ≡ 0 → ReadsPiece room all before before false
piece_none room all before into now n r some none =
    let z : min (length into) (length all - length before) ≡ 0 = sym r.count ∙ none in
    omega (arith, z, some)

pub piece_some : (all before into now : List ℕ) (n at : ℕ) → at ≡ length before → Reads all at into now n → (n ≡ 0 → ⊥) → ReadsPiece (length into) all before (before ++ take n now) true
piece_some all before into now n at here read some =
    let r = subst (λ (k : ℕ). Reads all k into now n) here read in
    let count : n ≡ min (length into) (length all - length before) = r.count in
    let left : length (drop (length before) all) ≡ length all - length before = length-drop (length before) all in
    let long : length (take n (drop (length before) all)) ≡ n = length-take-le n (drop (length before) all) (omega (arith, count, left)) in
    let piece : take n now ≡ take n (drop (length before) all) = ap (take n) r.buffer ∙ take_at (take n (drop (length before) all)) (drop n into) n long in
    let size : length (before ++ take n now) ≡ length before + n = length-append before (take n now) ∙ ap (λ (k : ℕ). length before + k) (ap length piece ∙ long) in
    (size ∙ ap (λ (k : ℕ). length before + k) count, inside n count some)
  where
    inside : (k : ℕ) → k ≡ min (length into) (length all - length before) → (k ≡ 0 → ⊥) → length before < length all
    inside zero e ne = absurd (ne refl)
    inside (suc k) e ne = omega (arith, e)

-- this many reads were made, and the bytes are as many as they give
pub record Piecewise (name : Text) (old : Disk Text → Type 0) (bytes : List ℕ) (made now : ℕ) : Type 0 where
  pub reads : ℕ
  pub counted : now ≡ after_calls reads made
  pub each : (d : Disk Text) → old d → (length bytes ≡ min (65536 * reads) (length (d.read name).bytes)) × (65536 * reads < length (d.read name).bytes + 65536)

pub piecewise_none : (name : Text) (old : Disk Text → Type 0) (bytes : List ℕ) (made : ℕ) → bytes ≡ [] → Piecewise name old bytes made made
piecewise_none name old bytes made e = record { reads = 0; counted = refl; each = λ d b. let z : length bytes ≡ 0 = ap length e in (omega (arith, z), omega arith) }

pub piecewise_more : (name : Text) (old mid new : Disk Text → Type 0) (before after : List ℕ) (made now next : ℕ) {E : Type 0} (room : ℕ) (b : Bool) → b ≡ true → room ≡ 65536 → next ≡ one_more now → Reading name old mid before
    → Sees {E = E} mid new (Ok b) (λ d more. ReadsPiece room (d.read name).bytes before after more) → Piecewise name old before made now → Piecewise name old after made next
piecewise_more name old mid new before after made now next room false yes_it is e reading sees p = absurd cc
piecewise_more name old mid new before after made now next room true yes_it is e reading sees p = record {
  reads = p.reads + 1;
  counted = e ∙ ap one_more p.counted ∙ sym (after_more p.reads 1 made);
  each = λ d b.
      let z = p.each d b in
      let w = (sees.each d (reading.each d b).0).1 in
      more p.reads (length (d.read name).bytes) (length before) (length after) z.0 (w.0 ∙ ap (λ (k : ℕ). length before + min k (length (d.read name).bytes - length before)) is) w.1;
}
  where
    more : (r size have got : ℕ) → have ≡ min (65536 * r) size → got ≡ have + min 65536 (size - have) → have < size → (got ≡ min (65536 * (r + 1)) size) × (65536 * (r + 1) < size + 65536)
    more r size have got e f l = (omega (arith, e, f, l), omega (arith, e, l))

-- the last read finds the end
pub piecewise_all : (name : Text) (old mid new : Disk Text → Type 0) (before after : List ℕ) (made now next : ℕ) {E F : Type 0} (room : ℕ) (b : Bool) (u : Unit {0}) → b ≡ false → next ≡ one_more now → Reading name old mid before
    → Sees {E = E} mid new (Ok b) (λ d more. ReadsPiece room (d.read name).bytes before after more) → Piecewise name old before made now → Counts {E = F} (λ d. reads_for (length (d.read name).bytes)) old made next (Ok u)
piecewise_all name old mid new before after made now next room true u none e reading sees p = absurd cc
piecewise_all name old mid new before after made now next room false u none e reading sees p = record {
  each = λ d b.
      let z = p.each d b in
      let w = (sees.each d (reading.each d b).0).1 in
      let is = pieces p.reads (length (d.read name).bytes) (length before) z.0 z.1 w in
      record { made = p.reads + 1; within = omega (arith, is); counted = e ∙ ap one_more p.counted ∙ sym (after_more p.reads 1 made); all = omega (arith, is) };
}
  where
    pieces : (r size have : ℕ) → have ≡ min (65536 * r) size → 65536 * r < size + 65536 → size ≤ have → (size + 65535) / 65536 ≡ r
    pieces r size have e l h = omega (arith, e, l, h)

-- no more reads before it
few : (r size : ℕ) → 65536 * r < size + 65536 → r ≤ (size + 65535) / 65536
few r size l = omega (arith, l)

pub piecewise_err : (name : Text) (old : Disk Text → Type 0) (before : List ℕ) (made now next : ℕ) {T E : Type 0} (y : E) → next ≡ one_more now → Piecewise name old before made now → Counts {T = T} (λ d. reads_for (length (d.read name).bytes)) old made next (Err y)
piecewise_err name old before made now next y e p = record {
  each = λ d b.
      let l = few p.reads (length (d.read name).bytes) (p.each d b).1 in
      record { made = p.reads + 1; within = omega (arith, l); counted = e ∙ ap one_more p.counted ∙ sym (after_more p.reads 1 made); all = tt };
}

pub piecewise_stop : (name : Text) (old : Disk Text → Type 0) (before : List ℕ) (made now : ℕ) {T E : Type 0} (y : E) → Piecewise name old before made now → Counts {T = T} (λ d. reads_for (length (d.read name).bytes)) old made now (Err y)
piecewise_stop name old before made now y p = record {
  each = λ d b.
      let l = few p.reads (length (d.read name).bytes) (p.each d b).1 in
      record { made = p.reads; within = omega (arith, l); counted = p.counted; all = tt };
}
