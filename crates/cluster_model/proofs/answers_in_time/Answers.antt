use Rattle.cluster_model.proofs.Clusters.{answers_in_time_hold}
use Rattle.cluster_model.proofs.answers_in_time.Goals as goal

pub returns : goal.returns
returns g c = λ kind. answers_in_time_hold (g.E.Engine.meaning kind) kind
