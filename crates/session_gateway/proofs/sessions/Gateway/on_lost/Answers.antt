use Rattle.std.proofs.Common.{ap, ◌∙◌}
use Rattle.std.proofs.lemmas.Result.{IfOk-weaker}
use Rattle.session_spec.specs.Sessions.{Gateway}
use Rattle.session_spec.specs.Events.{on_lost, told_lost}
use Rattle.session_table.specs.Sweeping.{all_told}
use Rattle.session_gateway.proofs.Holding.{marks_of, marks_held, happened_ok, seen_now, unmarked_held}
use Rattle.session_gateway.proofs.sessions.Gateway.on_lost.Goals as goal

pub lost-requires-clause-marks : goal.lost-requires-clause-marks
lost-requires-clause-marks c = marks_of c.self.inside.sessions.items c.self.inside.weight c.self.inside.next c.args.self.now c.args.machine.now c.self.view_is c.requires.pins

pub returns-clause-lost : goal.returns-clause-lost
returns-clause-lost c =
    happened_ok c.lost.result c.self.inside.sessions.items c.lost.new.sessions.items c.self.inside.weight c.self.inside.next c.args.self.now c.args.machine.now c.lost.new.machine on_lost c.self.view_is c.lost.ensures.table

pub returns-clause-told : goal.returns-clause-told
returns-clause-told c =
    IfOk-weaker c.lost.result _ _
    (λ told is. is c.self.inside.weight ∙ ap (λ (g : Gateway). all_told (told_lost g)) (seen_now c.self.inside.sessions.items c.self.inside.weight c.self.inside.next c.args.self.now c.args.machine.now c.self.view_is)) c.lost.ensures.told

pub returns-clause-pins_after : goal.returns-clause-pins_after
returns-clause-pins_after c = marks_held c.lost.new.sessions.items c.self.inside.weight c.self.inside.next c.lost.new.machine c.lost.ensures.marks_after

pub returns-clause-unmarked : goal.returns-clause-unmarked
returns-clause-unmarked c = unmarked_held c.lost.result c.lost.new.sessions.items c.self.inside.weight c.self.inside.next c.lost.ensures.unmarked
