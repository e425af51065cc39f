use Rattle.script_cluster.specs.Clusters.{held, once}
use Rattle.script_cluster.proofs.Happening.{takes_nothing, takes_not, takes_settle, takes_once, counts_then}
use Rattle.script_cluster.proofs.cluster.Cluster.take.Goals as goal

pub returns-then-not-exists : goal.returns-then-not-exists
returns-then-not-exists g c = takes_nothing g.P.NodePlace.knows c.args.event c.args.aim (held g.P.NodePlace.shows c.args.self.now) c.exists.result c.args.said.now.items c.exists.ensures c.if-not-exists.true

pub returns-then-not-count_event : goal.returns-then-not-count_event
returns-then-not-count_event g c =
    takes_not g.P.NodePlace.knows c.args.event c.args.aim (held g.P.NodePlace.shows c.args.self.now) (held g.P.NodePlace.shows c.count_event.new.self) c.exists.result c.settle_count.result c.count_event.result c.args.said.now.items c.exists.ensures c.if-not-exists.false c.settle_count.ensures c.in-None.is
    c.count_event.ensures c.if-not-count_event.true

pub returns-in-Some : goal.returns-in-Some
returns-in-Some g c =
    takes_settle g.P.NodePlace.knows c.args.event c.args.aim c.in-Some.count (held g.P.NodePlace.shows c.args.self.now) (held g.P.NodePlace.shows c.settle.new.self) c.exists.result c.settle_count.result c.settle.result c.args.said.now.items c.settle.new.said.items
    c.exists.ensures c.if-not-exists.false c.settle_count.ensures c.in-Some.is c.settle.ensures

pub returns-else-not-count_event : goal.returns-else-not-count_event
returns-else-not-count_event g c =
    takes_once g.P.NodePlace.knows c.args.event c.args.aim (held g.P.NodePlace.shows c.args.self.now) (held g.P.NodePlace.shows c.happen.new.self) c.exists.result c.settle_count.result c.happen.result c.args.said.now.items c.happen.new.said.items
    c.exists.ensures c.if-not-exists.false c.settle_count.ensures c.in-None.is
    (counts_then g.P.NodePlace.knows (once c.args.event c.args.aim) (held g.P.NodePlace.shows c.args.self.now) (held g.P.NodePlace.shows c.count_event.new.self) (held g.P.NodePlace.shows c.happen.new.self) c.count_event.result c.happen.result c.args.said.now.items c.happen.new.said.items
    c.count_event.ensures c.if-not-count_event.false c.happen.ensures)
