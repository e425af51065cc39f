use Rattle.script_cluster.specs.Clusters.{held}
use Rattle.script_cluster.proofs.Happening.{hangup_asks, hangup_quiet}
use Rattle.script_cluster.proofs.cluster.Cluster.hang_up.Goals as goal

pub returns-in-Some : goal.returns-in-Some
returns-in-Some g c =
    hangup_asks g.P.NodePlace.knows c.in-Some.node c.args.connection c.args.aim (held g.P.NodePlace.shows c.args.self.now) (held g.P.NodePlace.shows c.at_node.new.self) _ _ c.at_node.result
    c.args.said.now.items c.at_node.new.said.items c.node_of-node.ensures c.in-Some.is c.close.ensures c.at_node.ensures

pub returns-in-None : goal.returns-in-None
returns-in-None g c =
    hangup_quiet g.P.NodePlace.knows c.args.connection c.args.aim (held g.P.NodePlace.shows c.args.self.now) _ _ c.args.said.now.items c.node_of-node.ensures c.in-None.is c.close.ensures
