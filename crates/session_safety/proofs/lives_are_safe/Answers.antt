use Rattle.session_safety.proofs.Lives.{lives_are_safe_hold}
use Rattle.session_safety.proofs.lives_are_safe.Goals as goal

pub returns : goal.returns
returns g c = λ kind. lives_are_safe_hold (g.E.Engine.meaning kind) kind
