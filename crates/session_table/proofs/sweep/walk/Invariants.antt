use Rattle.std.proofs.Common.{◌+◌, ◌-◌, ◌≤◌, length, drop, vec_len, vec_capacity}
use Rattle.session_table.specs.Sweeping.{all_said}
use Rattle.session_table.proofs.Walking.{Walked}
use Rattle.session_table.proofs.sweep.walk.Given as goal

abbrev pub invariant-loop-place : goal.invariant-loop-place
invariant-loop-place l = record {
  walked : Walked l.event l.initial.sessions.items l.sessions.items l.place l.initial.machine l.machine l.initial.told.items l.told.items;
  room : vec_len l.told + length (all_said l.event (drop l.place l.sessions.items)) ≤ vec_capacity l.told;
}

abbrev pub decreases-loop-place : goal.decreases-loop-place
decreases-loop-place l = vec_len l.sessions - l.place
