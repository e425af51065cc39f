use Rattle.std.proofs.Common.{◌-◌}
use Rattle.script_cluster.specs.Clusters.{held}
use Rattle.script_cluster.proofs.Happening.{settled_more, settled_not, settled_none, settled_whole}
use Rattle.script_cluster.proofs.cluster.Cluster.settle.Goals as goal

pub returns-in-None : goal.returns-in-None
returns-in-None g c =
    settled_none g.P.NodePlace.knows c.args.count (c.args.count - c.loop-arrived._arrived) (held g.P.NodePlace.shows c.args.self.now) (held g.P.NodePlace.shows c.loop-arrived.self) c.first_waiting.new.self _ c.args.said.now.items c.loop-arrived.said.items c.loop-arrived.invariant
    c.first_waiting.ensures.same c.first_waiting.ensures.place c.in-None.is

pub returns-in-Err : goal.returns-in-Err
returns-in-Err g c =
    settled_not g.P.NodePlace.knows _ c.args.count c.loop-arrived._arrived c.in-Some.place (held g.P.NodePlace.shows c.args.self.now) (held g.P.NodePlace.shows c.loop-arrived.self) (held g.P.NodePlace.shows c.deliver_next.new.self) c.first_waiting.new.self _ c.deliver_next.result c.in-Err.fault c.args.said.now.items
    c.loop-arrived.said.items c.deliver_next.new.said.items c.loop-arrived-test.true c.loop-arrived.invariant c.first_waiting.ensures.same c.first_waiting.ensures.place c.in-Some.is c.deliver_next.ensures c.in-Err.is

pub loop-arrived-preserved : goal.loop-arrived-preserved
loop-arrived-preserved g c =
    settled_more g.P.NodePlace.knows c.args.count c.loop-arrived._arrived c.in-Some.place (held g.P.NodePlace.shows c.args.self.now) (held g.P.NodePlace.shows c.loop-arrived.self) (held g.P.NodePlace.shows c.deliver_next.new.self) c.first_waiting.new.self _ c.deliver_next.result c.in-Ok.field-0 c.args.said.now.items
    c.loop-arrived.said.items c.deliver_next.new.said.items c.loop-arrived-test.true c.loop-arrived.invariant c.first_waiting.ensures.same c.first_waiting.ensures.place c.in-Some.is c.deliver_next.ensures c.in-Ok.is

pub returns : goal.returns
returns g c = settled_whole g.P.NodePlace.knows c.args.count c.loop-arrived._arrived (held g.P.NodePlace.shows c.args.self.now) (held g.P.NodePlace.shows c.loop-arrived.self) c.args.said.now.items c.loop-arrived.said.items c.loop-arrived-test.false c.loop-arrived.invariant
