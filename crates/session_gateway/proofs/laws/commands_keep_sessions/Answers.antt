use Rattle.session_gateway.proofs.Keeping.{marks_stay, sessions_stay}
use Rattle.session_gateway.proofs.Numbering.{acted_agree}
use Rattle.session_gateway.proofs.laws.commands_keep_sessions.Goals as goal

pub returns-clause-pins : goal.returns-clause-pins
returns-clause-pins c = marks_stay

pub returns-clause-sessions : goal.returns-clause-sessions
returns-clause-sessions c = sessions_stay

pub returns-clause-agree : goal.returns-clause-agree
returns-clause-agree c = acted_agree
