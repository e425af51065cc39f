use Rattle.std.proofs.Common.{rules, ◌<◌, ◌≤◌, length, ◌∙◌}
use Rattle.script_cluster.specs.Clusters.{held}
use Rattle.script_cluster.proofs.Happening.{started_more, started_not, started_whole}
use Rattle.script_cluster.proofs.cluster.Cluster.start_all.Goals as goal

pub returns-in-Err : goal.returns-in-Err
returns-in-Err g c =
    let below : c.loop-index.index < length c.args.self.now.places.items = search rules in
    started_not g.P.NodePlace.knows _ (length c.args.self.now.places.items) c.loop-index.index (held g.P.NodePlace.shows c.args.self.now) (held g.P.NodePlace.shows c.loop-index.self) (held g.P.NodePlace.shows c.start.new.self) c.start.result c.in-Err.fault c.args.said.now.items c.loop-index.said.items c.start.new.said.items below c.loop-index.invariant.1
    c.start.ensures.does c.in-Err.is

pub loop-index-preserved : goal.loop-index-preserved
loop-index-preserved g c =
    let below : c.loop-index.index < length c.args.self.now.places.items = search rules in (
      c.start.ensures.count ∙ c.loop-index.invariant.0,
      started_more g.P.NodePlace.knows (length c.args.self.now.places.items) c.loop-index.index (held g.P.NodePlace.shows c.args.self.now) (held g.P.NodePlace.shows c.loop-index.self) (held g.P.NodePlace.shows c.start.new.self) c.start.result c.in-Ok.field-0 c.args.said.now.items c.loop-index.said.items c.start.new.said.items below c.loop-index.invariant.1
          c.start.ensures.does c.in-Ok.is,
    )

pub returns : goal.returns
returns g c =
    let past : length c.args.self.now.places.items ≤ c.loop-index.index = search rules in
    started_whole g.P.NodePlace.knows (length c.args.self.now.places.items) c.loop-index.index (held g.P.NodePlace.shows c.args.self.now) (held g.P.NodePlace.shows c.loop-index.self) c.args.said.now.items c.loop-index.said.items past c.loop-index.invariant.1
