use Rattle.raft_spec.specs.NodeValues.{node_of}
use Rattle.node_core.proofs.RaftExactly.{evens_more}
use Rattle.node_core.proofs.view.refill.Goals as goal

pub loop-server-preserved : goal.loop-server-preserved
loop-server-preserved c = evens_more (node_of c.args.replica.now.raft) c.args.servers.now c.loop-server.even.items c.add_even.new.even.items c.loop-server.server-index c.server-item.result c.loop-server-test.true c.loop-server.invariant c.server-item.is c.in_ok-add_even.ensures
