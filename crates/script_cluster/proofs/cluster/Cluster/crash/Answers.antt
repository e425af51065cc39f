use Rattle.script_cluster.specs.Clusters.{held}
use Rattle.script_cluster.proofs.Placing.{at_rest}
use Rattle.script_cluster.proofs.Doing.{crash_down}
use Rattle.script_cluster.proofs.Happening.{crash_tells}
use Rattle.script_cluster.proofs.cluster.Cluster.crash.Goals as goal

pub returns-then-not-is_up_at : goal.returns-then-not-is_up_at
returns-then-not-is_up_at g c =
    crash_down g.P.NodePlace.knows c.args.node c.args.pick (held g.P.NodePlace.shows c.args.self.now) c.args.said.now.items
    (at_rest g.P.NodePlace.shows _ c.args.self.now.places.items c.args.node _ _ c.is_up_at.ensures.up c.as_slice.ensures.value c.if-not-is_up_at.true)

pub returns : goal.returns
returns g c =
    crash_tells g.P.NodePlace.shows g.P.NodePlace.knows c.args.node c.args.pick c.args.self.now.voters c.args.self.now.places.items c.crash_at.new.places.items c.args.self.now.outside c.close_at.new.self
    c.args.said.now.items c.close_at.new.said.items c.index_of.result
    (at_rest g.P.NodePlace.shows _ c.args.self.now.places.items c.args.node _ _ c.is_up_at.ensures.up c.as_slice.ensures.value c.if-not-is_up_at.false)
    c.index_of.ensures c.in_ok-crash_at.ensures c.in_ok-close_at.ensures.closes c.in_ok-close_at.ensures.says
