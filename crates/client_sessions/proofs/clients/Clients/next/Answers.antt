use Rattle.client_sessions.proofs.Serving.{turn_answered}
use Rattle.client_sessions.proofs.Idle.{took_closed}
use Rattle.client_sessions.proofs.clients.Clients.next.Goals as goal

pub returns-clause-turn : goal.returns-clause-turn
returns-clause-turn g c =
    let machine = c.args.machine.now in
    turn_answered _ _ _ _ _ _ _ (c.in-Some.conn, c.in-Some.message) c.in_ok-asked.asked _ _ _ _ c.in_ok-act.act (c.in-Some.ensures.took machine) c.in_ok-asked.ensures.read c.in_ok-act.ensures.came c.answer.ensures.rest

pub returns-in_default-clause-idle : goal.returns-in_default-clause-idle
returns-in_default-clause-idle g c = λ idle none. took_closed _ _ c.take.result (c.take.ensures.took c.args.machine.now) none

pub returns-in_err-asked-clause-idle : goal.returns-in_err-asked-clause-idle
returns-in_err-asked-clause-idle g c = λ idle none. took_closed _ _ c.take.result (c.take.ensures.took c.args.machine.now) none

pub returns-in_err-act-clause-idle : goal.returns-in_err-act-clause-idle
returns-in_err-act-clause-idle g c = λ idle none. c.answer.ensures.idle idle (took_closed _ _ c.take.result (c.take.ensures.took c.args.machine.now) none)

pub returns-clause-idle : goal.returns-clause-idle
returns-clause-idle g c = λ idle none. c.answer.ensures.idle idle (took_closed _ _ c.take.result (c.take.ensures.took c.args.machine.now) none)
