use Rattle.database_state.proofs.First.{NoneBefore}
use Rattle.database_state.specs.Pins.{has_place}
use Rattle.database_state.proofs.lookup.find_place.Given as goal

abbrev pub invariant-loop-place : goal.invariant-loop-place
invariant-loop-place l = NoneBefore (has_place l.opened) l.databases l.place
