use Rattle.std.proofs.Common.{◌≡◌, take}
use Rattle.raft_spec.specs.NodeValues.{node_of}
use Rattle.node_core.specs.Core.{nears}
use Rattle.node_core.proofs.view.refill_near.Given as goal

abbrev pub invariant-loop-server : goal.invariant-loop-server
invariant-loop-server l = l.near.items ≡ nears l.replica.raft.id (node_of l.replica.raft) (take l.server-index l.servers)
