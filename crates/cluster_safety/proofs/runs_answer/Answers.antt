use Rattle.cluster_safety.proofs.Lasts.{runs_answer_hold}
use Rattle.cluster_safety.proofs.runs_answer.Goals as goal

pub returns : goal.returns
returns g c = λ kind. runs_answer_hold (g.E.Engine.meaning kind) kind
