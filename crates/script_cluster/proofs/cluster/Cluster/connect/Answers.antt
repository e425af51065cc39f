use Rattle.script_cluster.specs.Clusters.{held}
use Rattle.script_cluster.proofs.Placing.{at_rest}
use Rattle.script_cluster.proofs.Happening.{connect_asks, connect_closes}
use Rattle.script_cluster.proofs.cluster.Cluster.connect.Goals as goal

pub returns-then-not-is_up_at : goal.returns-then-not-is_up_at
returns-then-not-is_up_at g c =
    connect_closes g.P.NodePlace.knows c.args.node c.args.connection (held g.P.NodePlace.shows c.args.self.now) _ c.args.said.now.items _
    (at_rest g.P.NodePlace.shows _ c.args.self.now.places.items c.args.node _ _ c.is_up_at.ensures.up c.as_slice.ensures.value c.if-not-is_up_at.true)
    c.in_ok-make.ensures.made c.in_ok-push.ensures.items

pub returns : goal.returns
returns g c =
    connect_asks g.P.NodePlace.knows c.args.node c.args.connection (held g.P.NodePlace.shows c.args.self.now) (held g.P.NodePlace.shows c.at_node.new.self) _ c.at_node.result c.args.said.now.items c.at_node.new.said.items
    (at_rest g.P.NodePlace.shows _ c.args.self.now.places.items c.args.node _ _ c.is_up_at.ensures.up c.as_slice.ensures.value c.if-not-is_up_at.false) c.in_ok-make-2.ensures.made c.at_node.ensures
