use Rattle.std.proofs.Common.{ap, ◌∙◌}
use Rattle.std.proofs.lemmas.Result.{IfOk-weaker}
use Rattle.session_spec.specs.Sessions.{Gateway}
use Rattle.session_spec.specs.Events.{on_applied, told_applied}
use Rattle.session_table.specs.Sweeping.{all_told}
use Rattle.session_gateway.proofs.Holding.{marks_of, marks_held, happened_ok, seen_now}
use Rattle.session_gateway.proofs.sessions.Gateway.on_applied.Goals as goal

pub applied-requires-clause-marks : goal.applied-requires-clause-marks
applied-requires-clause-marks c = marks_of c.self.inside.sessions.items c.self.inside.weight c.self.inside.next c.args.self.now c.args.machine.now c.self.view_is c.requires.pins

pub returns-clause-landed : goal.returns-clause-landed
returns-clause-landed c =
    happened_ok c.applied.result c.self.inside.sessions.items c.applied.new.sessions.items c.self.inside.weight c.self.inside.next c.args.self.now c.args.machine.now c.applied.new.machine (on_applied c.args.index) c.self.view_is c.applied.ensures.table

pub returns-clause-told : goal.returns-clause-told
returns-clause-told c =
    IfOk-weaker c.applied.result _ _
    (λ told is. is c.self.inside.weight ∙ ap (λ (g : Gateway). all_told (told_applied c.args.index g)) (seen_now c.self.inside.sessions.items c.self.inside.weight c.self.inside.next c.args.self.now c.args.machine.now c.self.view_is)) c.applied.ensures.told

pub returns-clause-pins_after : goal.returns-clause-pins_after
returns-clause-pins_after c = marks_held c.applied.new.sessions.items c.self.inside.weight c.self.inside.next c.applied.new.machine c.applied.ensures.marks_after
