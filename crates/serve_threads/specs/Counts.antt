-- Counts of faults and of calls.
use Rattle.std.specs.Prelude.{◌≡◌, ◌≤◌, ◌+◌, ℕ, Result, MatchResult}
use Rattle.dq_base.specs.declared.faults.Failed.{Failed}
use Rattle.dq_base.specs.Faults.{Rose}
use Rattle.serve_threads.specs.declared.host_counts.HostCounts.{HostCounts}

-- what an inbox counts: the events that were taken, and its faults
pub record Tally : Type 0 where
  pub taken : ℕ
  pub faults : ℕ

-- a fault more was counted
pub record IsCounted (before now : ℕ) : Type 0 where
  pub never_falls : before ≤ now
  pub rose : Rose before now

-- one listen more, one worker more
abbrev pub one_listen : HostCounts → HostCounts
one_listen done = record done { listens = done.listens + 1 }

abbrev pub one_worker : HostCounts → HostCounts
one_worker done = record done { workers = done.workers + 1 }

-- if the call succeeded it was counted, else nothing was
abbrev pub Does : {T : Type 0} → HostCounts → HostCounts → HostCounts → Result T Failed → Type 0
Does before more now result = MatchResult result (λ _. now ≡ more) (λ _. now ≡ before)
