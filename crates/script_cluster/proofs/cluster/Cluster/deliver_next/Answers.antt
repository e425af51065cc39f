use Rattle.script_grammar.specs.declared.grammar.FaultTarget.TheVariants.{Nothing}
use Rattle.script_cluster.specs.World.{delivers}
use Rattle.script_cluster.specs.Clusters.{held}
use Rattle.script_cluster.proofs.Happening.{counts_then, counts_not}
use Rattle.script_cluster.proofs.cluster.Cluster.deliver_next.Goals as goal

pub returns-then-not-count_event : goal.returns-then-not-count_event
returns-then-not-count_event g c =
    counts_not g.P.NodePlace.knows (delivers c.args.place Nothing) (held g.P.NodePlace.shows c.args.self.now) (held g.P.NodePlace.shows c.count_event.new.self) c.count_event.result c.args.said.now.items c.count_event.ensures c.if-not-count_event.true

pub returns : goal.returns
returns g c =
    counts_then g.P.NodePlace.knows (delivers c.args.place Nothing) (held g.P.NodePlace.shows c.args.self.now) (held g.P.NodePlace.shows c.count_event.new.self) (held g.P.NodePlace.shows c.deliver.new.self) c.count_event.result c.deliver.result c.args.said.now.items c.deliver.new.said.items
    c.count_event.ensures c.if-not-count_event.false c.deliver.ensures
