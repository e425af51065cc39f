use Rattle.session_safety.proofs.Lasts.{lives_last_hold}
use Rattle.session_safety.proofs.lives_last.Goals as goal

pub returns : goal.returns
returns g c = λ kind. lives_last_hold (g.E.Engine.meaning kind) kind
