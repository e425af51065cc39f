-- The rules of compaction, by the end of the last snapshot.
use Rattle.std.specs.Prelude.{ℕ, suc, ◌+◌, ◌-◌, Bool, false, not, ◌&&◌, ◌||◌, ◌==◌, nat_lt, nat_le, if◌then◌else◌, Option, Some, None}
use Rattle.raft_spec.specs.Log.{LogEnd}
use Rattle.raft_log.specs.declared.compaction.InstallPlan.{InstallPlan}
use Rattle.raft_log.specs.declared.compaction.InstallPlan.TheVariants as plans

-- another snapshot is due: so much is applied past the last one
abbrev pub is_due : LogEnd → ℕ → Bool
is_due last applied = nat_le (last.index + 64) applied

-- the first index that stays with a snapshot at the index: what is compacted ends 16 before it
abbrev pub first_kept : ℕ → ℕ
first_kept index = suc (index - 16)

-- a peer needs the snapshot: its next entry is before the log's first, or is that and the one before it is neither 0 nor the snapshot's end
abbrev pub needs : LogEnd → ℕ → ℕ → Bool
needs last next first = nat_lt next first || ((next == first) && not (first - 1 == 0) && not (first - 1 == last.index))

-- the log's own term is the one that is offered
abbrev pub has_that_term : LogEnd → Option ℕ → Bool
has_that_term offered None = false
has_that_term offered (Some term) = term == offered.term

-- what becomes of the log
abbrev pub plan_for : LogEnd → ℕ → Option ℕ → InstallPlan
plan_for offered applied own = if nat_le offered.index applied then plans.Old else if has_that_term offered own then plans.KeepRest else plans.Replace
