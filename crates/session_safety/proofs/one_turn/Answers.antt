use Rattle.session_safety.proofs.Turns.{one_turn_holds}
use Rattle.session_safety.proofs.one_turn.Goals as goal

pub returns : goal.returns
returns g c = λ kind. one_turn_holds (g.E.Engine.meaning kind) kind
