use Rattle.std.proofs.Common.{◌∙◌}
use Rattle.client_sessions.proofs.Hearing.{closing_held}
use Rattle.client_sessions.proofs.clients.Clients.reason.Goals as goal

pub returns-in-Some : goal.returns-in-Some
returns-in-Some c = λ databases. c.close_reason.ensures ∙ closing_held c.args.self.now databases c.args.conn _ c.in-Some.ensures.value

pub returns-in-None : goal.returns-in-None
returns-in-None c = λ databases. closing_held c.args.self.now databases c.args.conn _ c.in-None.ensures.value
