use Rattle.script_cluster.specs.Knowing.{StartsOn}
use Rattle.script_cluster.proofs.Placing.{comes_at}
use Rattle.script_cluster.proofs.cluster.start_at.Goals as goal

pub returns-clause-comes : goal.returns-clause-comes
returns-clause-comes g c =
    comes_at g.P.NodePlace.shows (λ old new. StartsOn g.P.NodePlace.knows old new c.args.node c.args.voters c.args.aim) c.args.places.now.items c.args.index c.index_mut.result.now c.start.new.self c.start.result
    c.requires.within c.index_mut.ensures.value c.start.ensures.comes
