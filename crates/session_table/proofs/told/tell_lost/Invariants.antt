use Rattle.std.proofs.Common.{◌≡◌, take}
use Rattle.session_table.specs.Waiting.{told_lost_to}
use Rattle.session_table.proofs.told.tell_lost.Given as goal

abbrev pub invariant-loop-client : goal.invariant-loop-client
invariant-loop-client l = l.told.items ≡ told_lost_to (take l.client-index l.waiting)
