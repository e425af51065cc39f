use Rattle.cluster_model.proofs.Seeing.{clusters_see_hold}
use Rattle.cluster_model.proofs.clusters_see.Goals as goal

pub returns : goal.returns
returns g c = λ kind. clusters_see_hold (g.E.Engine.meaning kind) kind
