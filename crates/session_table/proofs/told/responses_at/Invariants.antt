use Rattle.std.proofs.Common.{◌≡◌, ◌+◌, length, drop}
use Rattle.session_table.specs.declared.sweep.Event.TheVariants.{Applied}
use Rattle.session_table.specs.Sweeping.{all_said}
use Rattle.session_table.proofs.told.responses_at.Given as goal

abbrev pub invariant-loop-session : goal.invariant-loop-session
invariant-loop-session l = l.count + length (all_said (Applied l.index) (drop l.session-index l.sessions)) ≡ length (all_said (Applied l.index) l.sessions)
