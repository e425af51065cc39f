use Rattle.raft_spec.specs.NodeValues.{node_of}
use Rattle.node_core.proofs.Nears.{nears_more}
use Rattle.node_core.proofs.view.refill_near.Goals as goal

pub loop-server-preserved : goal.loop-server-preserved
loop-server-preserved c = nears_more c.args.replica.now.raft.id (node_of c.args.replica.now.raft) c.args.servers.now c.loop-server.near.items c.add_near.new.near.items c.loop-server.server-index c.server-item.result c.loop-server-test.true c.loop-server.invariant c.server-item.is c.in_ok-add_near.ensures
