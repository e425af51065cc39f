use Rattle.session_spec.specs.Sessions.{Gateway}
use Rattle.session_spec.specs.Events.{on_hangup}
use Rattle.session_gateway.proofs.Holding.{marks_of, marks_held, happened}
use Rattle.session_gateway.proofs.sessions.Gateway.on_hangup.Goals as goal

pub left-requires-clause-marks : goal.left-requires-clause-marks
left-requires-clause-marks c = marks_of c.self.inside.sessions.items c.self.inside.weight c.self.inside.next c.args.self.now c.args.machine.now c.self.view_is c.requires.pins

pub returns-clause-left : goal.returns-clause-left
returns-clause-left c =
    happened c.self.inside.sessions.items c.left.new.sessions.items c.self.inside.weight c.self.inside.next c.args.self.now c.args.machine.now c.left.new.machine (λ (g : Gateway). on_hangup g c.args.conn) c.self.view_is c.left.ensures.table

pub returns-clause-pins_after : goal.returns-clause-pins_after
returns-clause-pins_after c = marks_held c.left.new.sessions.items c.self.inside.weight c.self.inside.next c.left.new.machine c.left.ensures.marks_after
