use Rattle.std.proofs.Common.{List, [], map, sym, subst}
use Rattle.database_state.specs.ImageNumbers.{numbered}
use Rattle.session_statements.specs.Agreeing.{Agree}
use Rattle.session_table.specs.declared.session.Session.{Session}
use Rattle.session_table.specs.Working.{works_of}
use Rattle.session_gateway.proofs.Numbering.{started_agree}
use Rattle.session_gateway.proofs.sessions.Gateway.new.Goals as goal

pub returns-clause-agrees : goal.returns-clause-agrees
returns-clause-agrees c = λ databases machine. subst (λ (sessions : List Session). Agree [] (works_of sessions) 0 (map numbered databases)) (sym c.new.ensures.items) (started_agree databases machine)
