use Rattle.client_sessions.proofs.Serving.{took_ready, took_stand, took_agree}
use Rattle.client_sessions.proofs.clients.Clients.take.Goals as goal

pub returns-clause-ready : goal.returns-clause-ready
returns-clause-ready c = λ databases stand. took_ready _ _ c.take_next.result (c.take_next.ensures.took databases) stand.sound

pub returns-clause-stand : goal.returns-clause-stand
returns-clause-stand c = λ databases stand. took_stand c.args.self.now _ databases c.take_next.result (c.take_next.ensures.took databases) c.take_next.ensures.gateway stand

pub returns-clause-agrees : goal.returns-clause-agrees
returns-clause-agrees c = λ known databases agree. took_agree known c.args.self.now c.take_next.new.self databases c.take_next.ensures.gateway agree
