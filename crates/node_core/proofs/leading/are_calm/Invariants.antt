use Rattle.std.specs.Prelude.{take}
use Rattle.node_core.proofs.Duties.{AreCalm}
use Rattle.node_core.proofs.leading.are_calm.Given as goal

abbrev pub invariant-loop-database : goal.invariant-loop-database
invariant-loop-database l = AreCalm l.databases (take l.database-index l.databases)
