use Rattle.std.proofs.Common.{[], ◌∷◌, Some, None, refl}
use Rattle.client_sessions.proofs.Serving.{finishes_held, turned_held, idle_held, read_stand}
use Rattle.client_sessions.proofs.Idle.{none_held}
use Rattle.client_sessions.proofs.clients.Clients.on_read_done.Goals as goal

pub returns-in_err-act-clause-stand : goal.returns-in_err-act-clause-stand
returns-in_err-act-clause-stand c = λ databases stand. read_stand c.args.self.now _ databases stand (c.finish.ensures.sound databases) (λ q. refl) c.finish.ensures.pins

pub returns-in_default-clause-finished : goal.returns-in_default-clause-finished
returns-in_default-clause-finished c = λ databases. finishes_held c.args.self.now _ databases c.args.conn _ c.in_ok-act.field-0 None c.in_default.is (c.in_ok-act.ensures.finished databases)

pub returns-in_default-clause-rest : goal.returns-in_default-clause-rest
returns-in_default-clause-rest c = λ databases. idle_held c.args.self.now _ databases databases (λ q. refl) refl

pub returns-in_default-clause-stand : goal.returns-in_default-clause-stand
returns-in_default-clause-stand c = λ databases stand. read_stand c.args.self.now _ databases stand (c.finish.ensures.sound databases) (λ q. refl) c.finish.ensures.pins

pub returns-in_err-push_back-clause-stand : goal.returns-in_err-push_back-clause-stand
returns-in_err-push_back-clause-stand c = λ databases stand. read_stand c.args.self.now _ databases stand (c.finish.ensures.sound databases) (λ q. refl) c.finish.ensures.pins

pub returns-clause-finished : goal.returns-clause-finished
returns-clause-finished c = λ databases. finishes_held c.args.self.now _ databases c.args.conn _ c.in_ok-act.field-0 (Some c.in-Some.act) c.in-Some.is (c.in_ok-act.ensures.finished databases)

pub returns-clause-rest : goal.returns-clause-rest
returns-clause-rest c = λ databases. turned_held c.args.self.now _ databases databases (c.args.conn ∷ []) (λ q. refl) c.in_ok-push_back.ensures.items

pub returns-clause-stand : goal.returns-clause-stand
returns-clause-stand c = λ databases stand. read_stand c.args.self.now _ databases stand (c.finish.ensures.sound databases) (λ q. refl) c.finish.ensures.pins

pub returns-in_err-act-clause-idle : goal.returns-in_err-act-clause-idle
returns-in_err-act-clause-idle c = λ databases. none_held c.args.self.now _ databases databases (c.finish.ensures.idle databases)

pub returns-in_default-clause-idle : goal.returns-in_default-clause-idle
returns-in_default-clause-idle c = λ databases. none_held c.args.self.now _ databases databases (c.finish.ensures.idle databases)

pub returns-in_err-push_back-clause-idle : goal.returns-in_err-push_back-clause-idle
returns-in_err-push_back-clause-idle c = λ databases. none_held c.args.self.now _ databases databases (c.finish.ensures.idle databases)

pub returns-clause-idle : goal.returns-clause-idle
returns-clause-idle c = λ databases. none_held c.args.self.now _ databases databases (c.finish.ensures.idle databases)
