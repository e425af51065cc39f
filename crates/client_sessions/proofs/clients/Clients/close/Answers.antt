use Rattle.std.proofs.Common.{sym, ◌∙◌}
use Rattle.client_sessions.proofs.Hearing.{closed_none, closed_is_hung}
use Rattle.client_sessions.proofs.clients.Clients.close.Goals as goal

pub returns-in_default-clause-closed : goal.returns-in_default-clause-closed
returns-in_default-clause-closed c = sym (closed_none _ c.args.conn (sym (c.reason.ensures c.args.machine.now) ∙ c.in_default.is))

pub returns-clause-closed : goal.returns-clause-closed
returns-clause-closed c =
    c.hang_up.ensures.left ∙ sym (closed_is_hung _ c.args.conn c.in-Some.reason (sym (c.reason.ensures c.args.machine.now) ∙ c.in-Some.is))
