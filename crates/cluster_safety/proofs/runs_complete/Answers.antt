use Rattle.cluster_safety.proofs.Completes.{runs_complete_hold}
use Rattle.cluster_safety.proofs.runs_complete.Goals as goal

pub returns : goal.returns
returns g c = λ kind. runs_complete_hold (g.E.Engine.meaning kind) kind
