use Rattle.std.proofs.Common.{◌≡◌, drop, find}
use Rattle.std.specs.Prelude.{◌==◌}
use Rattle.raft_spec.specs.Node.{Server}
use Rattle.session_requests.proofs.cluster.leader_among.Given as goal

abbrev pub invariant-loop-server : goal.invariant-loop-server
invariant-loop-server l = find (λ (server : Server). server.id == l.id) (drop l.server-index l.servers) ≡ find (λ (server : Server). server.id == l.id) l.servers
