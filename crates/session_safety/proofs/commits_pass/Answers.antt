use Rattle.session_safety.proofs.Turns.{commits_pass_hold}
use Rattle.session_safety.proofs.commits_pass.Goals as goal

pub returns : goal.returns
returns g c = λ kind. commits_pass_hold (g.E.Engine.meaning kind) kind
