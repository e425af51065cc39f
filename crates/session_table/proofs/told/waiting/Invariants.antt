use Rattle.std.proofs.Common.{◌≡◌, ◌≤◌, length, drop}
use Rattle.session_table.specs.Waiting.{waiting_in}
use Rattle.session_table.proofs.told.waiting.Given as goal

abbrev pub invariant-loop-place : goal.invariant-loop-place
invariant-loop-place l = record {
  so_far : l.waiting.items ≡ waiting_in (drop l.place l.sessions);
  within : l.place ≤ length l.sessions;
}

abbrev pub decreases-loop-place : goal.decreases-loop-place
decreases-loop-place l = l.place
