use Rattle.session_safety.proofs.Answers.{answers_come_hold}
use Rattle.session_safety.proofs.answers_come.Goals as goal

pub returns : goal.returns
returns g c = λ kind. answers_come_hold (g.E.Engine.meaning kind) kind
