use Rattle.cluster_model.proofs.Blocks.{chosen_whole_holds}
use Rattle.cluster_model.proofs.chosen_whole.Goals as goal

pub returns : goal.returns
returns g c = λ kind. chosen_whole_holds (g.E.Engine.meaning kind)
