use Rattle.session_safety.proofs.Sees.{lives_see_hold}
use Rattle.session_safety.proofs.lives_see.Goals as goal

pub returns : goal.returns
returns g c = λ kind. lives_see_hold (g.E.Engine.meaning kind) kind
