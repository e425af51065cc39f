-- Calls that failed, and the count of faults.
use Rattle.std.proofs.Common.{◌≡◌, ◌⊎◌, inl, inr, ◌+◌, ◌<◌, ◌≤◌, ℕ, suc, Bool, true, false, cond, List, [], ◌∷◌, ◌++◌, Option, Some, None, refl, ap, ◌∙◌, arith}
use Rattle.dq_base.specs.Faults.{one_more, last_count, Rose}
use Rattle.std.proofs.lemmas.Bool.Decides.{leb_tells}
use Rattle.client.specs.declared.dialer.NetCall.{NetCall}
use Rattle.client.specs.declared.dialer.NetCall.TheVariants.{Dial, Write, Read}
use Rattle.client.specs.Net.{Net, Tells, has_failed, failures, FailuresCount, HaveFailed}
use Rattle.client.specs.Running.{Made, Counted}
use Rattle.client.specs.Driving.{Stops}
use Rattle.client.specs.declared.run.Run.{Run}

-- what a call adds to the failures
abbrev pub weight : NetCall → ℕ
weight call = cond (has_failed call) 1 0

failures_on : (calls : List NetCall) (call : NetCall) → failures (calls ++ call ∷ []) ≡ failures calls + weight call
failures_on [] call = let n = weight call in omega arith
failures_on (c ∷ calls) call =
    let rest : failures (calls ++ call ∷ []) ≡ failures calls + weight call = failures_on calls call in
    omega arith

-- a count rose by what the call adds, or is at its last value
grew : (old new : ℕ) (b : Bool) → old ≤ new → (b ≡ true → Rose old new) → (old + cond b 1 0 ≤ new) ⊎ (last_count ≤ new)
grew old new false le rose = inl (omega arith)
grew old new true le rose = by (rose refl)
  where
    by : Rose old new → (old + 1 ≤ new) ⊎ (last_count ≤ new)
    by r = elim (leb_tells (suc old) last_count) [
      | inl w ↦ let fits : suc old ≤ last_count = w.1 in inl (omega arith)
      | inr w ↦ let above : last_count < suc old = w.1 in inr (omega arith)
    ]

-- the failed dials rise by no more than the call adds
dials_grow : (old new : Net) (call : NetCall) → Counted old new call → new.undialled ≤ old.undialled + weight call
dials_grow old new (Dial address true) c = let is : new.undialled ≡ old.undialled = c.1 in omega arith
dials_grow old new (Dial address false) c = let is : new.undialled ≡ one_more old.undialled = c.1 in omega arith
dials_grow old new (Write bytes true) c = let is : new.undialled ≡ old.undialled = c.1 in omega arith
dials_grow old new (Write bytes false) c = let is : new.undialled ≡ old.undialled = c.1 in omega arith
dials_grow old new (Read None) c = let is : new.undialled ≡ old.undialled = c.1 in omega arith
dials_grow old new (Read (Some bytes)) c = let is : new.undialled ≡ old.undialled = c.1 in omega arith

-- a bound on the failures of one kind goes over one call more
on : (start old new more left gone : ℕ) → old ≤ new → left ≤ gone + more → (old + more ≤ new) ⊎ (last_count ≤ new)
    → (first : ℕ) → (start + gone ≤ old + first) ⊎ (last_count ≤ old) → (start + left ≤ new + first) ⊎ (last_count ≤ new)
on start old new more left gone le add (inr last) first was = inr last
on start old new more left gone le add (inl up) first (inr last) = inr (omega arith)
on start old new more left gone le add (inl up) first (inl was) = inl (omega arith)

calls_on : (start old new : ℕ) (before was now : Option (List NetCall)) (call : NetCall) → old ≤ new → (old + weight call ≤ new) ⊎ (last_count ≤ new)
    → Tells was now call → FailuresCount start old before was → FailuresCount start new before now
calls_on start old new before was None call le up t f = tt
calls_on start old new before None (Some all) call le up t f = absurd t
calls_on start old new None (Some was) (Some all) call le up t f = absurd f
calls_on start old new (Some before) (Some was) (Some all) call le up t f =
    let is : failures all ≡ failures was + weight call = ap failures t ∙ failures_on was call in
    on start old new (weight call) (failures all) (failures was) le (omega arith) up (failures before) f

pub failed_on : (start old new : Net) (call : NetCall) → HaveFailed start old → Made old new call → HaveFailed start new
failed_on start old new call f m =
    let was : start.faults ≤ old.faults = f.never_falls in
    let le : old.faults ≤ new.faults = m.never_falls in
    let up = grew old.faults new.faults (has_failed call) m.never_falls m.failed in
    record {
      never_falls = omega arith;
      dials = on start.faults old.faults new.faults (weight call) new.undialled old.undialled le (dials_grow old new call m.counts) up start.undialled f.dials;
      calls = calls_on start.faults old.faults new.faults start.calls old.calls new.calls call le up m.told f.calls;
    }

none_counted : (faults : ℕ) (calls : Option (List NetCall)) → FailuresCount faults faults calls calls
none_counted faults None = tt
none_counted faults (Some calls) = inl (omega arith)

-- before the first call
pub none_failed : (start : Net) → HaveFailed start start
none_failed start = record { never_falls = omega arith; dials = inl (omega arith); calls = none_counted start.faults start.calls }

-- after a call after which memory ran out
pub stops_failed : (start old new : Net) (run : Run) → HaveFailed start old → Stops old run new → HaveFailed start new
stops_failed start old new run f o = failed_on start old new o.call f o.made
