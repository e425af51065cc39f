-- Laws of counts of faults: a cause that one call had is a cause for the calls around it.
use Rattle.std.proofs.Common.{ℕ, ◌≤◌, arith}
use Rattle.std.specs.Prelude.{Result, Ok, Err}
use Rattle.dq_base.specs.declared.faults.Failed.{Failed}
use Rattle.dq_base.specs.Faults.{last_count, Rose, HasCause}

-- a count that rose has risen by any later moment
pub Rose-later : (before now later : ℕ) → Rose before now → now ≤ later → Rose before later
Rose-later before now later rose falls = omega arith

-- a count that rose has risen since any earlier moment
pub Rose-earlier : (earlier before now : ℕ) → earlier ≤ before → Rose before now → Rose earlier now
Rose-earlier earlier before now falls rose = omega arith

-- a count that rose did not fall
pub Rose-le : (before now : ℕ) → before ≤ last_count → Rose before now → before ≤ now
Rose-le before now bound rose = omega arith

-- a call's success, whatever it answers, has no cause to name
pub HasCause-ok : {T : Type 0} (before now : ℕ) (value : T) → before ≤ now → HasCause {T = T} before now (Ok value)
HasCause-ok before now value falls = record { never_falls = falls; failed = tt }

-- a failure has its cause where the count did not fall and rose
pub HasCause-failed : {T : Type 0} (before now : ℕ) (failed : Failed) → before ≤ now → Rose before now → HasCause {T = T} before now (Err failed)
HasCause-failed before now failed falls rose = record { never_falls = falls; failed = rose }

-- a failure that is passed on keeps its cause, whatever the value would have been
pub HasCause-passed : {T S : Type 0} (before now : ℕ) (failed : Failed) → HasCause {T = T} before now (Err failed) → HasCause {T = S} before now (Err failed)
HasCause-passed before now failed cause = record { never_falls = cause.never_falls; failed = cause.failed }

-- the cause of the last of several calls is a cause of them all
pub HasCause-then : {T : Type 0} (earlier before now : ℕ) (result : Result T Failed) → earlier ≤ before → HasCause before now result → HasCause earlier now result
HasCause-then earlier before now (Ok value) falls cause = record { never_falls = omega (arith, cause.never_falls); failed = tt }
HasCause-then earlier before now (Err failed) falls cause = record { never_falls = omega (arith, cause.never_falls); failed = Rose-earlier earlier before now falls cause.failed }

-- the cause of a call stays one while later calls count on
pub HasCause-later : {T : Type 0} (before now later : ℕ) (result : Result T Failed) → HasCause before now result → now ≤ later → HasCause before later result
HasCause-later before now later (Ok value) cause falls = record { never_falls = omega (arith, cause.never_falls); failed = tt }
HasCause-later before now later (Err failed) cause falls = record { never_falls = omega (arith, cause.never_falls); failed = Rose-later before now later cause.failed falls }
