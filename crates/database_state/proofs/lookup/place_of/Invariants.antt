use Rattle.database_state.proofs.Places.{SoFar}
use Rattle.database_state.proofs.lookup.place_of.Given as goal

abbrev pub invariant-loop-place : goal.invariant-loop-place
invariant-loop-place l = SoFar l.name l.databases l.place
