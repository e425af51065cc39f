use Rattle.session_safety.proofs.Turns as turns
use Rattle.session_safety.proofs.changes_take_turns.Goals as goal

pub returns : goal.returns
returns g c = λ kind. turns.changes_take_turns (g.E.Engine.meaning kind) kind
