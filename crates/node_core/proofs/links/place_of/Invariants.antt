use Rattle.database_state.proofs.First.{NoneBefore}
use Rattle.node_core.specs.Carrying.{is_of}
use Rattle.node_core.proofs.links.place_of.Given as goal

abbrev pub invariant-loop-place : goal.invariant-loop-place
invariant-loop-place l = NoneBefore (is_of l.conn) l.links l.place
