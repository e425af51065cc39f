use Rattle.cluster_safety.proofs.Lasts.{runs_last_hold}
use Rattle.cluster_safety.proofs.runs_last.Goals as goal

pub returns : goal.returns
returns g c = λ kind. runs_last_hold (g.E.Engine.meaning kind) kind
