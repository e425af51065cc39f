use Rattle.std.proofs.Common.{◌≡◌, drop}
use Rattle.std.specs.List.{list_any}
use Rattle.session_requests.specs.Looking.{votes_as}
use Rattle.session_requests.proofs.cluster.is_voter.Given as goal

abbrev pub invariant-loop-server : goal.invariant-loop-server
invariant-loop-server l = list_any (votes_as l.id) (drop l.server-index l.servers) ≡ list_any (votes_as l.id) l.servers
