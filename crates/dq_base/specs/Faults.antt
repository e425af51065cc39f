-- Counts of faults of the outside: an answer that something outside failed has its cause in one of these counts.
use Rattle.std.specs.Prelude.{ℕ, suc, ◌-◌, ◌^◌, ◌≤◌, min, Result, OnErr}
use Rattle.dq_base.specs.declared.faults.Failed.{Failed}

-- the last value of a count, at which it stays
abbrev pub last_count : ℕ
last_count = 2 ^ 64 - 1

-- the count after one more
abbrev pub one_more : ℕ → ℕ
one_more count = min (suc count) last_count

-- The count rose: there was one more fault at least, or it is at its last value.
abbrev pub Rose : ℕ → ℕ → Type 0
Rose before now = one_more before ≤ now

-- The count did not fall, and a failure has its cause in it: at an Err it rose.
pub record HasCause {T : Type 0} (before now : ℕ) (result : Result T Failed) : Type 0 where
  pub never_falls : before ≤ now
  pub failed : OnErr result (Rose before now)
