use Rattle.std.proofs.Common.{[], ◌∷◌, Some, None, refl}
use Rattle.client_sessions.proofs.Serving.{awaits_held, resumes_held, turned_held, idle_held, came_stand}
use Rattle.client_sessions.proofs.Idle.{none_held}
use Rattle.client_sessions.proofs.clients.Clients.on_later.Goals as goal

pub resume-requires-clause-awaits : goal.resume-requires-clause-awaits
resume-requires-clause-awaits g c = awaits_held c.args.self.now c.args.machine.now c.args.conn c.requires.stand

pub returns-in_err-act-clause-stands : goal.returns-in_err-act-clause-stands
returns-in_err-act-clause-stands g c = came_stand c.args.self.now _ c.args.machine.now c.resume.new.machine c.requires.stand c.resume.ensures.sound (λ q. refl) c.resume.ensures.pins_after

pub returns-in_default-clause-resumed : goal.returns-in_default-clause-resumed
returns-in_default-clause-resumed g c =
    resumes_held _ _ _ _ c.args.self.now _ c.args.machine.now c.resume.new.machine c.args.conn _ _ _ _ c.in_ok-act.field-0 None c.in_default.is c.in_ok-act.ensures.resumed

pub returns-in_default-clause-rest : goal.returns-in_default-clause-rest
returns-in_default-clause-rest g c = idle_held c.args.self.now _ c.args.machine.now c.resume.new.machine (λ q. refl) refl

pub returns-in_default-clause-stands : goal.returns-in_default-clause-stands
returns-in_default-clause-stands g c = came_stand c.args.self.now _ c.args.machine.now c.resume.new.machine c.requires.stand c.resume.ensures.sound (λ q. refl) c.resume.ensures.pins_after

pub returns-in_err-push_back-clause-stands : goal.returns-in_err-push_back-clause-stands
returns-in_err-push_back-clause-stands g c = came_stand c.args.self.now _ c.args.machine.now c.resume.new.machine c.requires.stand c.resume.ensures.sound (λ q. refl) c.resume.ensures.pins_after

pub returns-clause-resumed : goal.returns-clause-resumed
returns-clause-resumed g c =
    resumes_held _ _ _ _ c.args.self.now _ c.args.machine.now c.resume.new.machine c.args.conn _ _ _ _ c.in_ok-act.field-0 (Some c.in-Some.act) c.in-Some.is c.in_ok-act.ensures.resumed

pub returns-clause-rest : goal.returns-clause-rest
returns-clause-rest g c = turned_held c.args.self.now _ c.args.machine.now c.resume.new.machine (c.args.conn ∷ []) (λ q. refl) c.in_ok-push_back.ensures.items

pub returns-clause-stands : goal.returns-clause-stands
returns-clause-stands g c = came_stand c.args.self.now _ c.args.machine.now c.resume.new.machine c.requires.stand c.resume.ensures.sound (λ q. refl) c.resume.ensures.pins_after

pub returns-in_err-act-clause-idle : goal.returns-in_err-act-clause-idle
returns-in_err-act-clause-idle g c = λ idle. none_held c.args.self.now _ c.args.machine.now c.resume.new.machine (c.resume.ensures.idle idle)

pub returns-in_default-clause-idle : goal.returns-in_default-clause-idle
returns-in_default-clause-idle g c = λ idle. none_held c.args.self.now _ c.args.machine.now c.resume.new.machine (c.resume.ensures.idle idle)

pub returns-in_err-push_back-clause-idle : goal.returns-in_err-push_back-clause-idle
returns-in_err-push_back-clause-idle g c = λ idle. none_held c.args.self.now _ c.args.machine.now c.resume.new.machine (c.resume.ensures.idle idle)

pub returns-clause-idle : goal.returns-clause-idle
returns-clause-idle g c = λ idle. none_held c.args.self.now _ c.args.machine.now c.resume.new.machine (c.resume.ensures.idle idle)
