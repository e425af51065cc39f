use Rattle.std.proofs.Common.{◌≡◌, take}
use Rattle.raft_spec.specs.Node.{voters}
use Rattle.node_core.proofs.changing.voters_of.Given as goal

abbrev pub invariant-loop-server : goal.invariant-loop-server
invariant-loop-server l = l.ids.items ≡ voters (take l.server-index l.servers)
