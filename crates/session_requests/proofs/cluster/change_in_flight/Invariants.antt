use Rattle.std.proofs.Common.{◌≡◌, drop}
use Rattle.std.specs.List.{list_any}
use Rattle.session_requests.specs.Looking.{is_changing}
use Rattle.session_requests.proofs.cluster.change_in_flight.Given as goal

abbrev pub invariant-loop-session : goal.invariant-loop-session
invariant-loop-session l = list_any is_changing (drop l.session-index l.sessions) ≡ list_any is_changing l.sessions
