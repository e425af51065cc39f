use Rattle.std.proofs.Common.{take}
use Rattle.session_table.specs.Changing.{IsAbsent}
use Rattle.session_table.proofs.table.find.Given as goal

abbrev pub invariant-loop-place : goal.invariant-loop-place
invariant-loop-place l = IsAbsent l.conn (take l.place l.sessions)
