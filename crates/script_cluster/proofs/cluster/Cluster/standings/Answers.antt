use Rattle.std.proofs.Common.{rules, ◌<◌, length}
use Rattle.script_cluster.proofs.Placing.{standing_more}
use Rattle.script_cluster.proofs.cluster.Cluster.standings.Goals as goal

pub loop-index-preserved : goal.loop-index-preserved
loop-index-preserved g c =
    let below : c.loop-index.index < length c.args.self.now.places.items = search rules in
    standing_more g.P.NodePlace.shows c.args.self.now.places.items c.loop-index.index c.index.result.now c.loop-index.said.items _ _ c.shown.result
    below c.index.ensures (c.shown.ensures (g.P.NodePlace.shows c.index.result.now).standing c.line.ensures) c.in_ok-push.ensures.items
    c.loop-index.invariant
