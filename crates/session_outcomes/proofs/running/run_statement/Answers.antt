use Rattle.std.proofs.Common.{map}
use Rattle.database_state.specs.ImageNumbers.{numbered}
use Rattle.session_table.specs.Working.{with_number, work_of}
use Rattle.session_table.proofs.Works.{all_among}
use Rattle.session_outcomes.proofs.Ground.{ground_inside}
use Rattle.session_outcomes.proofs.Works.{agree_inside, may_over, more_stand, own_works, works_stand}
use Rattle.session_outcomes.proofs.running.run_statement.Goals as goal

pub run_on-requires : goal.run_on-requires
run_on-requires g c =
    let tx = c.args.session.now.transaction in
    let x = c.in-Some.transaction in
    may_over (g.E.Engine.known c.args.engine.now) (work_of tx) (map numbered c.args.setting.now.machine.now) c.args.setting.now.number (with_number x.number x.working) c.requires.may
    (works_stand (work_of tx) (with_number x.number x.working) (map numbered c.args.setting.now.machine.now) (own_works tx x (work_of tx) c.in-Some.is (all_among (work_of tx))))

pub run_lent-requires : goal.run_lent-requires
run_lent-requires g c = record { may = λ before image stands. c.requires.may before image (more_stand (work_of c.args.session.now.transaction) _ (map numbered c.args.setting.now.machine.now) before image tt stands) }

pub returns-in-Some-clause-agree : goal.returns-in-Some-clause-agree
returns-in-Some-clause-agree g c = λ works among a.
    let x = c.in-Some.transaction in
    agree_inside _ _ works c.args.setting.now.number (map numbered c.args.setting.now.machine.now) c.args.session.now.transaction x _ c.run_on.result c.in-Some.is (ground_inside c.args.setting.now.machine.now c.args.session.now x c.in-Some.is) c.run_on.ensures.learnt among a
