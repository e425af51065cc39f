use Rattle.session_safety.proofs.Lasts.{answered_here_holds}
use Rattle.session_safety.proofs.answered_here.Goals as goal

pub returns : goal.returns
returns g c = λ kind. answered_here_holds (g.E.Engine.meaning kind) kind
