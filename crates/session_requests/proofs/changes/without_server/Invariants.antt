use Rattle.std.proofs.Common.{◌≡◌, take}
use Rattle.session_spec.specs.Servers.{without_server}
use Rattle.session_requests.proofs.changes.without_server.Given as goal

abbrev pub invariant-loop-server : goal.invariant-loop-server
invariant-loop-server l = l.rest.items ≡ without_server l.id (take l.server-index l.servers)
