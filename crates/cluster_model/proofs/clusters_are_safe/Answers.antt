use Rattle.cluster_model.proofs.Clusters.{clusters_are_safe_hold}
use Rattle.cluster_model.proofs.clusters_are_safe.Goals as goal

pub returns : goal.returns
returns g c = λ kind. clusters_are_safe_hold (g.E.Engine.meaning kind) kind
