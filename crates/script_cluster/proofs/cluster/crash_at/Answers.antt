use Rattle.script_cluster.specs.Outcomes.{Crashes}
use Rattle.script_cluster.specs.Knowing.{LeadsOn}
use Rattle.script_cluster.proofs.Placing.{crashes_at}
use Rattle.script_cluster.proofs.cluster.crash_at.Goals as goal

pub returns : goal.returns
returns g c =
    crashes_at g.P.NodePlace.shows (λ old new. LeadsOn g.P.NodePlace.knows old new (λ node. Crashes node c.args.pick)) c.args.places.now.items c.args.index c.index_mut.result.now c.crash.new.self c.crash.result
    c.requires.within c.index_mut.ensures.value c.crash.ensures.stands c.crash.ensures.leads
