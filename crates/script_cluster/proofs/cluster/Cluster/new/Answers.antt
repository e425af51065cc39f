use Rattle.script_cluster.proofs.Learning.{all_new, new_more}
use Rattle.script_cluster.proofs.Placing.{made_more}
use Rattle.script_cluster.proofs.cluster.Cluster.new.Goals as goal

pub loop-made-preserved : goal.loop-made-preserved
loop-made-preserved g c = (
  made_more g.P.NodePlace.shows c.loop-made.places.items _ c.in_ok-empty.field-0 c.loop-made._made c.in_ok-push.ensures.items c.in_ok-empty.ensures.shows c.loop-made.invariant.0,
  new_more g.P.NodePlace.knows c.loop-made.places.items _ c.in_ok-empty.field-0 c.in_ok-push.ensures.items c.in_ok-empty.ensures.knows c.loop-made.invariant.1,
)

pub returns-clause-knows : goal.returns-clause-knows
returns-clause-knows g c = all_new g.P.NodePlace.knows c.args.voters c.loop-made.places.items c.loop-made.invariant.1
