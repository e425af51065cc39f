-- How many calls of the disk are made.
use Rattle.std.proofs.Common.{◌≡◌, ◌<◌, ◌≤◌, ℕ, suc, ◌+◌, ◌*◌, Bool, false, cond, List, [], ◌∷◌, length, Option, Some, None, Result, Ok, Err, refl, sym, ap, ◌∙◌, subst, arith}
use Rattle.std.specs.Prelude.{nat_lt, map}
use Rattle.std.proofs.lemmas.Bool.{lt-ltb, le-ltb}
use Rattle.dq_base.specs.Faults.{one_more}
use Rattle.disk_model.specs.Trait.{after_calls, MakesCalls}
use Rattle.disk_model.proofs.Counting.{after_more}
use Rattle.store_laws.specs.Store.{Snap, Log}
use Rattle.segment_store.specs.declared.keep_plan.KeepPlan.{KeepPlan}
use Rattle.segment_store.specs.Open.{Open}
use Rattle.segment_store.specs.Keeping.{older_than}
use Rattle.segment_store.specs.Plans.{IsPlan}
use Rattle.segment_store.specs.MadeCalls.{block_count, batch_count, file_count, kept_count}

-- the same number, said in another way
pub counts_as : {T E : Type 0} (a b before now : ℕ) (result : Result T E) → b ≡ a → MakesCalls {T = T} {E = E} a before now result → MakesCalls {T = T} {E = E} b before now result
counts_as {T} {E} a b before now result e c = subst (λ (n : ℕ). MakesCalls {T = T} {E = E} n before now result) (sym e) c

pub block_none : (size : Option ℕ) → size ≡ None → block_count size ≡ 3
block_none size e = ap block_count e

pub block_over : (size : Option ℕ) (n : ℕ) → size ≡ Some n → 40 < n → block_count size ≡ 4
block_over size n e t = ap block_count e ∙ ap (λ (b : Bool). cond b 4 2) (lt-ltb 40 n t)

pub block_there : (size : Option ℕ) (n : ℕ) → size ≡ Some n → n ≤ 40 → block_count size ≡ 2
block_there size n e t =
    let f : nat_lt 40 n ≡ false = le-ltb _ _ t in
    ap block_count e ∙ ap (λ (b : Bool). cond b 4 2) f

pub file_is : (is_there b : Bool) → is_there ≡ b → file_count is_there ≡ cond b 4 3
file_is is_there b e = ap (λ (c : Bool). cond c 4 3) e

pub batch_is : (room o : Option ℕ) → room ≡ o → batch_count room ≡ batch_count o
batch_is room o e = ap batch_count e

-- one call more after others, which failed, and which was Ok
pub err_after : {S T E F : Type 0} (a all old mid now : ℕ) (x : S) (y : F) → a + 1 ≤ all → MakesCalls {T = S} {E = E} a old mid (Ok x) → now ≡ one_more mid → MakesCalls {T = T} {E = F} all old now (Err y)
err_after a all old mid now x y l c e = record {
  made = a + 1;
  within = l;
  counted = e ∙ ap one_more (c.counted ∙ ap (λ (k : ℕ). after_calls k old) c.all) ∙ sym (after_more a 1 old);
  all = tt;
}

pub ok_after : {S T E F : Type 0} (a old mid now : ℕ) (x : S) (y : T) → MakesCalls {T = S} {E = E} a old mid (Ok x) → now ≡ one_more mid → MakesCalls {T = T} {E = F} (a + 1) old now (Ok y)
ok_after a old mid now x y c e = record {
  made = a + 1;
  within = omega arith;
  counted = e ∙ ap one_more (c.counted ∙ ap (λ (k : ℕ). after_calls k old) c.all) ∙ sym (after_more a 1 old);
  all = refl;
}

-- two calls more for each name
pub two_more : {E : Type 0} (i old mid now : ℕ) (x y z : Unit {0}) → MakesCalls {E = E} (2 * i) old mid (Ok x) → (mid_2 : ℕ) → mid_2 ≡ one_more mid → now ≡ one_more mid_2 → MakesCalls {E = E} (2 * (i + 1)) old now (Ok z)
two_more {E} i old mid now x y z c mid_2 e f = counts_as (2 * i + 1 + 1) (2 * (i + 1)) old now (Ok z) (omega arith) (ok_after {E = E} (2 * i + 1) old mid_2 now y z (ok_after {E = E} {F = E} (2 * i) old mid mid_2 x y c e) f)

-- ---- a plan has as many names as the store has files

length_names : (f : ℕ → List ℕ) (ms : List ℕ) → length (map f ms) ≡ length ms
length_names f [] = refl
length_names f (m ∷ ms) = ap suc (length_names f ms)

pub plan_count : (s : Open) (x : Snap) (new : Log) (p : KeepPlan) → IsPlan s x new p → kept_count s x.index ≡ file_count p.snapshot.is_there + (5 + (2 * length p.old.segments.items + length p.old.snapshots.items))
plan_count s x new p plan =
    let a : length p.old.segments.items ≡ length s.segments = ap length plan.segments ∙ length_names _ s.segments in
    let b : length p.old.snapshots.items ≡ length (older_than x.index s.snapshots) = ap length plan.snapshots ∙ length_names _ (older_than x.index s.snapshots) in
    λ i. file_count (sym plan.is_there i) + (5 + (2 * sym a i + sym b i))
