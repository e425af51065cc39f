use Rattle.cluster_safety.proofs.Safes.{runs_are_safe_hold}
use Rattle.cluster_safety.proofs.runs_are_safe.Goals as goal

pub returns : goal.returns
returns g c = λ kind. runs_are_safe_hold (g.E.Engine.meaning kind) kind
