use Rattle.std.proofs.Common.{◌≡◌, take}
use Rattle.raft_messages.specs.Kinds.{role_number}
use Rattle.session_spec.specs.Servers.{with_role}
use Rattle.session_requests.proofs.changes.with_role.Given as goal

abbrev pub invariant-loop-server : goal.invariant-loop-server
invariant-loop-server l = l.all.items ≡ with_role l.id (role_number l.role) (take l.server-index l.servers)
