use Rattle.std.proofs.lemmas.Result.{err_from_is_err_and}
use Rattle.script_cluster.specs.Places.{doing_of}
use Rattle.script_cluster.specs.Clusters.{held}
use Rattle.script_cluster.proofs.Placing.{at_rest}
use Rattle.script_cluster.proofs.Doing.{at_node_down, place_failed}
use Rattle.script_cluster.proofs.Happening.{at_node_asks}
use Rattle.script_cluster.proofs.cluster.Cluster.at_node.Goals as goal

pub returns-then-not-is_up_at : goal.returns-then-not-is_up_at
returns-then-not-is_up_at g c =
    at_node_down g.P.NodePlace.knows c.args.node (doing_of c.args.event) c.args.aim (held g.P.NodePlace.shows c.args.self.now) c.args.said.now.items
    (at_rest g.P.NodePlace.shows _ c.args.self.now.places.items c.args.node _ _ c.is_up_at.ensures.up c.as_slice.ensures.value c.if-not-is_up_at.true)

pub returns : goal.returns
returns g c =
    at_node_asks g.P.NodePlace.shows g.P.NodePlace.knows c.args.node (doing_of c.args.event) c.args.aim c.args.self.now.voters c.tell.new.self.voters c.args.self.now.places.items c.step_at.new.places.items
    c.tell.new.self.places.items c.args.self.now.outside c.tell.new.self.outside c.in_ok-came.came c.tell.result c.args.said.now.items c.tell.new.said.items c.index_of.result
    (at_rest g.P.NodePlace.shows _ c.args.self.now.places.items c.args.node _ _ c.is_up_at.ensures.up c.as_slice.ensures.value c.if-not-is_up_at.false)
    c.index_of.ensures c.in_ok-came.ensures c.tell.ensures.told (λ i. (c.tell.ensures.places i).items) c.tell.ensures.voters

pub returns-in_err-came : goal.returns-in_err-came
returns-in_err-came g c =
    let p = err_from_is_err_and c.from_residual.result c.from_residual.ensures.1 in
    rw (p.1, p.2) (place_failed g.P.NodePlace.knows (Unit {0}) _ c.in_err-came.field-0.0 _ _ _ _)
