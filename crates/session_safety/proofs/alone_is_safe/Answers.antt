use Rattle.session_safety.proofs.Alones.{alone_is_safe_holds, turns_say_hold, turns_see_hold, scripts_are_safe_hold}
use Rattle.session_safety.proofs.alone_is_safe.Goals as goal

pub returns-clause-turns : goal.returns-clause-turns
returns-clause-turns g c = λ kind. alone_is_safe_holds (g.E.Engine.meaning kind) kind

pub returns-clause-in_turn : goal.returns-clause-in_turn
returns-clause-in_turn g c = λ kind. turns_say_hold (g.E.Engine.meaning kind) kind

pub returns-clause-seen : goal.returns-clause-seen
returns-clause-seen g c = λ kind. turns_see_hold (g.E.Engine.meaning kind) kind

pub returns-clause-scripts : goal.returns-clause-scripts
returns-clause-scripts g c = λ kind. scripts_are_safe_hold (g.E.Engine.meaning kind) kind
