use Rattle.cluster_model.proofs.Answering.{clusters_answer_hold}
use Rattle.cluster_model.proofs.clusters_answer.Goals as goal

pub returns : goal.returns
returns g c = λ kind. clusters_answer_hold (g.E.Engine.meaning kind) kind
