use Rattle.database_state.proofs.First.{NoneBefore}
use Rattle.database_state.specs.Databases.{has_name}
use Rattle.database_state.proofs.lookup.find_named.Given as goal

abbrev pub invariant-loop-place : goal.invariant-loop-place
invariant-loop-place l = NoneBefore (has_name l.name) l.databases l.place
