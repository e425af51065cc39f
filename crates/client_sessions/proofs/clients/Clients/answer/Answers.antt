use Rattle.std.proofs.Common.{refl}
use Rattle.client_sessions.proofs.Serving.{ready_held, listed_held, came_held, rest_held, came_stand}
use Rattle.client_sessions.proofs.Idle.{none_held}
use Rattle.client_sessions.proofs.clients.Clients.answer.Goals as goal

pub come-requires-clause-ready : goal.come-requires-clause-ready
come-requires-clause-ready g c = ready_held c.args.self.now c.args.machine.now c.args.conn c.requires.ready

pub come-requires-clause-listed : goal.come-requires-clause-listed
come-requires-clause-listed g c = listed_held c.args.self.now c.args.machine.now c.args.conn c.requires.stand

pub returns-clause-came : goal.returns-clause-came
returns-clause-came g c = came_held _ _ _ _ c.args.self.now _ c.args.machine.now c.come.new.machine c.args.conn c.args.asked _ _ _ _ c.come.result c.come.ensures.came

pub returns-clause-rest : goal.returns-clause-rest
returns-clause-rest g c = rest_held c.args.self.now _ c.args.machine.now c.come.new.machine (λ q. refl) refl

pub returns-clause-stands : goal.returns-clause-stands
returns-clause-stands g c = came_stand c.args.self.now _ c.args.machine.now c.come.new.machine c.requires.stand c.come.ensures.sound (λ q. refl) c.come.ensures.pins_after

pub returns-clause-idle : goal.returns-clause-idle
returns-clause-idle g c = λ idle. none_held c.args.self.now _ c.args.machine.now c.come.new.machine (c.come.ensures.idle idle)
