use Rattle.cluster_model.proofs.Clusters.{alike_files_hold}
use Rattle.cluster_model.proofs.files_are_alike.Goals as goal

pub returns : goal.returns
returns g c = λ kind. alike_files_hold (g.E.Engine.meaning kind) kind
