use Rattle.script_cluster.specs.Clusters.{held}
use Rattle.script_cluster.proofs.Happening.{deliver_asks, deliver_away, deliver_unread}
use Rattle.script_cluster.proofs.cluster.Cluster.deliver.Goals as goal

pub returns-then-not-is_node : goal.returns-then-not-is_node
returns-then-not-is_node g c =
    deliver_away g.P.NodePlace.knows c.args.place c.args.aim c.in-Some.message (held g.P.NodePlace.shows c.args.self.now) c.arrive.new.self _ c.is_node.result c.args.said.now.items c.requires c.in_ok-arrive.ensures.read c.in-Some.is c.in_ok-arrive.ensures.arrived
    c.is_node.ensures c.if-not-is_node.true

pub returns-in-None : goal.returns-in-None
returns-in-None g c =
    deliver_unread g.P.NodePlace.knows c.args.place c.args.aim (held g.P.NodePlace.shows c.args.self.now) c.arrive.new.self _ c.args.said.now.items c.requires c.in_ok-arrive.ensures.read c.in-None.is c.in_ok-arrive.ensures.arrived

pub returns-else-not-is_node : goal.returns-else-not-is_node
returns-else-not-is_node g c =
    deliver_asks g.P.NodePlace.knows c.args.place c.args.aim c.in-Some.message (held g.P.NodePlace.shows c.args.self.now) (held g.P.NodePlace.shows c.at_node.new.self) c.arrive.new.self _ c.is_node.result c.at_node.result c.args.said.now.items c.at_node.new.said.items
    c.requires c.in_ok-arrive.ensures.read c.in-Some.is c.in_ok-arrive.ensures.arrived c.is_node.ensures c.if-not-is_node.false c.at_node.ensures
