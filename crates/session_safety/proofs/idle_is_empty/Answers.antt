use Rattle.session_safety.proofs.Lives.{idle_is_empty_holds}
use Rattle.session_safety.proofs.idle_is_empty.Goals as goal

pub returns : goal.returns
returns g c = λ kind. idle_is_empty_holds (g.E.Engine.meaning kind) kind
