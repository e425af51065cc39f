use Rattle.script_cluster.specs.Outcomes.{Does}
use Rattle.script_cluster.specs.Knowing.{LeadsOn}
use Rattle.script_cluster.specs.Places.{doing_of}
use Rattle.script_cluster.proofs.Placing.{comes_at}
use Rattle.script_cluster.proofs.cluster.step_at.Goals as goal

pub returns : goal.returns
returns g c =
    comes_at g.P.NodePlace.shows (λ old new outcome. LeadsOn g.P.NodePlace.knows old new (λ node. Does node (doing_of c.args.event) c.args.aim outcome)) c.args.places.now.items c.args.index c.index_mut.result.now c.step.new.self c.step.result
    c.requires.within c.index_mut.ensures.value c.step.ensures.comes
