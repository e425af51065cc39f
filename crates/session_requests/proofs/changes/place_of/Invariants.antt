use Rattle.session_requests.proofs.Changing.{SoFar}
use Rattle.session_requests.proofs.changes.place_of.Given as goal

abbrev pub invariant-loop-place : goal.invariant-loop-place
invariant-loop-place l = SoFar l.id l.servers l.place
