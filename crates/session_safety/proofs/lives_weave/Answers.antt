use Rattle.session_safety.proofs.Lives.{lives_weave_hold}
use Rattle.session_safety.proofs.lives_weave.Goals as goal

pub returns : goal.returns
returns g c = λ kind. lives_weave_hold (g.E.Engine.meaning kind) kind
