use Rattle.std.proofs.Common.{[], map, ◌∙◌}
use Rattle.database_state.specs.ImageNumbers.{numbered}
use Rattle.session_table.specs.Working.{with_number}
use Rattle.session_outcomes.proofs.Works.{agree_lent, may_over, newest_stands}
use Rattle.session_outcomes.proofs.running.run_lent.Goals as goal

pub run_on-requires : goal.run_on-requires
run_on-requires g c =
    may_over (g.E.Engine.known c.args.engine.now) [] (map numbered c.args.setting.now.machine.now) c.args.setting.now.number (with_number c.number-before.result c.deref.result.now) c.requires.may
    (newest_stands [] c.args.name.now c.args.setting.now.machine.now c.number-before.result c.deref.result.now c.number-before.ensures (c.deref.ensures ∙ c.in_ok-image.ensures))

pub returns-clause-agree : goal.returns-clause-agree
returns-clause-agree g c = λ works a.
    agree_lent _ _ works c.args.setting.now.number c.args.setting.now.machine.now c.args.name.now c.number-before.result c.deref.result.now c.run_on.result c.number-before.ensures (c.deref.ensures ∙ c.in_ok-image.ensures) c.run_on.ensures.learnt a
