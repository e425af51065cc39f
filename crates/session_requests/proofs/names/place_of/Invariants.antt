use Rattle.session_requests.proofs.Naming.{SoFar}
use Rattle.session_requests.proofs.names.place_of.Given as goal

abbrev pub invariant-loop-place : goal.invariant-loop-place
invariant-loop-place l = SoFar l.name l.names l.place
