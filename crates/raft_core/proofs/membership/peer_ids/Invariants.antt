use Rattle.std.proofs.Common.{◌≡◌, take}
use Rattle.raft_spec.specs.Node.{peers}
use Rattle.raft_core.proofs.membership.peer_ids.Given as goal

abbrev pub invariant-loop-server : goal.invariant-loop-server
invariant-loop-server l = l.ids.items ≡ peers (take l.server-index l.servers) l.own
