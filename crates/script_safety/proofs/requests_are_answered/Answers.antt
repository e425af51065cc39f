use Rattle.script_safety.proofs.Completing.{scripts_are_complete_hold}
use Rattle.script_safety.proofs.requests_are_answered.Goals as goal

pub returns : goal.returns
returns g c = λ kind. scripts_are_complete_hold (g.E.Engine.meaning kind) kind
