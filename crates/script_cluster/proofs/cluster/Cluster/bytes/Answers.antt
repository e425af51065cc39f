use Rattle.std.proofs.Common.{sym, ◌∙◌}
use Rattle.script_cluster.specs.Outcomes.{Bytes}
use Rattle.script_cluster.specs.Clusters.{held}
use Rattle.script_cluster.proofs.Doing.{on_open, on_shut}
use Rattle.script_cluster.proofs.cluster.Cluster.bytes.Goals as goal

pub returns-in-Some : goal.returns-in-Some
returns-in-Some g c =
    on_open g.P.NodePlace.knows c.in-Some.node c.args.connection (Bytes c.args.connection c.args.bytes) c.args.aim (held g.P.NodePlace.shows c.args.self.now) (held g.P.NodePlace.shows c.at_node.new.self) c.at_node.result
    c.args.said.now.items c.at_node.new.said.items (sym c.node_of.ensures ∙ c.in-Some.is) c.at_node.ensures

pub returns-in-None : goal.returns-in-None
returns-in-None g c = on_shut g.P.NodePlace.knows c.args.connection (Bytes c.args.connection c.args.bytes) c.args.aim (held g.P.NodePlace.shows c.args.self.now) c.args.said.now.items (sym c.node_of.ensures ∙ c.in-None.is)
