-- Calls that are counted, one after another.
use Rattle.std.proofs.Common.{Bool, false, List, length, ◌≡◌, ◌≤◌, ℕ, zero, suc, ◌+◌, refl, sym, ap, ◌∙◌, subst, arith, Result, Ok, Err}
use Rattle.dq_base.specs.Faults.{one_more, last_count}
use Rattle.disk_model.specs.Trait.{Text, after_calls, MakesCalls}
use Rattle.disk_model.specs.Writing.{replace_calls}

-- calls after calls
pub after_more : (a b before : ℕ) → after_calls (a + b) before ≡ after_calls b (after_calls a before)
after_more zero b before = let e : 0 + b ≡ b = omega arith in ap (λ (k : ℕ). after_calls k before) e
after_more (suc a) b before = let e : suc a + b ≡ suc (a + b) = omega arith in ap (λ (k : ℕ). after_calls k before) e ∙ after_more a b (one_more before)

-- below the last value the count is a plain sum
pub after_is : (k before : ℕ) → before + k ≤ last_count → after_calls k before ≡ before + k
after_is zero before l = omega arith
after_is (suc k) before l =
    let e : one_more before ≡ suc before = omega (arith, l) in
    ap (after_calls k) e ∙ after_is k (suc before) (omega (arith, l)) ∙ omega arith

-- no call
pub calls_none : {T E : Type 0} (before : ℕ) (x : T) → MakesCalls {T = T} {E = E} 0 before before (Ok x)
calls_none before x = record { made = 0; within = omega arith; counted = refl; all = refl }

-- nothing was called before an Err
pub calls_refused : {T E : Type 0} (count before : ℕ) (x : E) → MakesCalls {T = T} {E = E} count before before (Err x)
calls_refused count before x = record { made = 0; within = omega arith; counted = refl; all = tt }

-- one call
pub calls_one : {T E : Type 0} (before now : ℕ) (result : Result T E) → now ≡ one_more before → MakesCalls {T = T} {E = E} 1 before now result
calls_one before now (Ok x) e = record { made = 1; within = omega arith; counted = e; all = refl }
calls_one before now (Err x) e = record { made = 1; within = omega arith; counted = e; all = tt }

-- a call that failed, before others
pub calls_stop : {T E : Type 0} (count before now : ℕ) (x : E) → now ≡ one_more before → MakesCalls {T = T} {E = E} (suc count) before now (Err x)
calls_stop count before now x e = record { made = 1; within = omega arith; counted = e; all = tt }

-- a call, and then others
pub calls_then : {T E : Type 0} (count before mid now : ℕ) (result : Result T E) → mid ≡ one_more before → MakesCalls {T = T} {E = E} count mid now result → MakesCalls {T = T} {E = E} (suc count) before now result
calls_then count before mid now (Ok x) e c = record { made = suc c.made; within = let z = c.within in omega (arith, z); counted = c.counted ∙ ap (after_calls c.made) e; all = ap suc c.all }
calls_then count before mid now (Err x) e c = record { made = suc c.made; within = let z = c.within in omega (arith, z); counted = c.counted ∙ ap (after_calls c.made) e; all = tt }

-- calls, and then others
pub calls_more : {S T E F : Type 0} (a b before mid now : ℕ) (x : S) (result : Result T F) → MakesCalls {T = S} {E = E} a before mid (Ok x) → MakesCalls {T = T} {E = F} b mid now result → MakesCalls {T = T} {E = F} (a + b) before now result
calls_more a b before mid now x (Ok y) c d =
    let first : c.made ≡ a = c.all in
    let second : d.made ≡ b = d.all in
    record {
      made = c.made + d.made;
      within = omega (arith, first, second);
      counted = d.counted ∙ ap (after_calls d.made) c.counted ∙ sym (after_more c.made d.made before);
      all = omega (arith, first, second);
    }
calls_more a b before mid now x (Err y) c d =
    let first = c.within in
    let second = d.within in
    record {
      made = c.made + d.made;
      within = omega (arith, first, second);
      counted = d.counted ∙ ap (after_calls d.made) c.counted ∙ sym (after_more c.made d.made before);
      all = tt;
    }

-- calls that failed, before others
pub calls_broke : {S T E F : Type 0} (a b before now : ℕ) (x : E) (y : F) → MakesCalls {T = S} {E = E} a before now (Err x) → MakesCalls {T = T} {E = F} (a + b) before now (Err y)
calls_broke a b before now x y c = let z = c.within in record { made = c.made; within = omega (arith, z); counted = c.counted; all = tt }

-- the same calls, for another answer of the same kind
pub calls_as : {S T E F : Type 0} (a before now : ℕ) (x : S) (y : T) → MakesCalls {T = S} {E = E} a before now (Ok x) → MakesCalls {T = T} {E = F} a before now (Ok y)
calls_as a before now x y c = record { made = c.made; within = c.within; counted = c.counted; all = c.all }

pub calls_failed : {S T E F : Type 0} (a before now : ℕ) (x : E) (y : F) → MakesCalls {T = S} {E = E} a before now (Err x) → MakesCalls {T = T} {E = F} a before now (Err y)
calls_failed a before now x y c = record { made = c.made; within = c.within; counted = c.counted; all = tt }

-- a file written whole where it isn't there
pub calls_replace_new : {T E : Type 0} (n : Text) (bytes : List ℕ) (is_there : Bool) (before now : ℕ) (result : Result T E) → is_there ≡ false → MakesCalls {T = T} {E = E} 3 before now result → MakesCalls {T = T} {E = E} (length (replace_calls n bytes is_there)) before now result
calls_replace_new {T} {E} n bytes is_there before now result e c = subst (λ (b : Bool). MakesCalls {T = T} {E = E} (length (replace_calls n bytes b)) before now result) (sym e) c
