use Rattle.std.proofs.Common.{◌≡◌, take}
use Rattle.raft_spec.specs.NodeValues.{node_of}
use Rattle.node_core.specs.Core.{evens}
use Rattle.node_core.proofs.view.refill.Given as goal

abbrev pub invariant-loop-server : goal.invariant-loop-server
invariant-loop-server l = l.even.items ≡ evens (node_of l.replica.raft) (take l.server-index l.servers)
