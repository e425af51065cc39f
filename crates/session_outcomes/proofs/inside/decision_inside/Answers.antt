use Rattle.std.proofs.Common.{option_map, sym, ap, subst, ◌∙◌}
use Rattle.session_statements.specs.Running.{Shows}
use Rattle.session_spec.specs.Machine.{machine_of}
use Rattle.session_table.specs.Table.{table_of, session_of, transaction_of}
use Rattle.session_outcomes.proofs.Shown.{shows_stopped, shows_large, shows_ended}
use Rattle.session_outcomes.proofs.InsideRun.{stopped_inside, large_inside, idle_inside, work_inside, leads_inside, applied_inside, pages_inside}
use Rattle.session_outcomes.proofs.inside.decision_inside.Goals as goal

pub returns-in-Stopped-clause-comes : goal.returns-in-Stopped-clause-comes
returns-in-Stopped-clause-comes c = λ weight tx v statements ended shows.
    stopped_inside v (machine_of c.args.setting.now.machine.now) (table_of c.args.setting.now.machine.now c.args.sessions.now weight) c.args.session.now.conn (session_of c.args.setting.now.machine.now c.args.session.now) (transaction_of c.args.setting.now.machine.now c.args.transaction.now) statements c.args.rows ended c.in-Stopped.fault c.of_engine.result (shows_stopped tx _ ended c.in-Stopped.fault (subst (Shows tx _ ended) c.in-Stopped.is shows)) c.of_engine.ensures

pub returns-in-TooLarge-clause-comes : goal.returns-in-TooLarge-clause-comes
returns-in-TooLarge-clause-comes c = λ weight tx v statements ended shows.
    large_inside v (machine_of c.args.setting.now.machine.now) (table_of c.args.setting.now.machine.now c.args.sessions.now weight) c.args.session.now.conn (session_of c.args.setting.now.machine.now c.args.session.now) (transaction_of c.args.setting.now.machine.now c.args.transaction.now) statements c.args.rows ended c.too_large.result c.in-TooLarge.answer (shows_large tx _ ended c.in-TooLarge.answer (subst (Shows tx _ ended) c.in-TooLarge.is shows)) (c.too_large.ensures.comes weight v (session_of c.args.setting.now.machine.now c.args.session.now) c.args.transaction.now.working)

pub returns-then-is_unchanged-clause-comes : goal.returns-then-is_unchanged-clause-comes
returns-then-is_unchanged-clause-comes c = λ weight tx v statements ended shows.
    let all = shows_ended tx c.args.transaction.now.working ended c.in-Ended.ran (subst (Shows tx c.args.transaction.now.working ended) c.in-Ended.is shows) in
    idle_inside v (machine_of c.args.setting.now.machine.now) (table_of c.args.setting.now.machine.now c.args.sessions.now weight) c.args.session.now.conn (session_of c.args.setting.now.machine.now c.args.session.now) (transaction_of c.args.setting.now.machine.now c.args.transaction.now) statements c.args.rows ended c.idle.result tx c.in-Ended.ran all (ap (option_map (transaction_of c.args.setting.now.machine.now)) c.requires.open) (sym c.is_unchanged.ensures ∙ c.if-is_unchanged.true) (c.idle.ensures.comes v (machine_of c.args.setting.now.machine.now) (session_of c.args.setting.now.machine.now c.args.session.now) _)

pub returns-else-is_unchanged-clause-comes : goal.returns-else-is_unchanged-clause-comes
returns-else-is_unchanged-clause-comes c = λ weight tx v statements ended shows.
    let all = shows_ended tx c.args.transaction.now.working ended c.in-Ended.ran (subst (Shows tx c.args.transaction.now.working ended) c.in-Ended.is shows) in
    work_inside v (machine_of c.args.setting.now.machine.now) (table_of c.args.setting.now.machine.now c.args.sessions.now weight) c.args.session.now.conn (session_of c.args.setting.now.machine.now c.args.session.now) (transaction_of c.args.setting.now.machine.now c.args.transaction.now) statements c.args.rows ended c.work.result tx c.in-Ended.ran all (sym c.is_unchanged.ensures ∙ c.if-is_unchanged.false)
    (c.work.ensures.comes weight v (session_of c.args.setting.now.machine.now c.args.session.now) (transaction_of c.args.setting.now.machine.now c.args.transaction.now) _ all.to (leads_inside v (machine_of c.args.setting.now.machine.now) (table_of c.args.setting.now.machine.now c.args.sessions.now weight) c.args.session.now.conn (session_of c.args.setting.now.machine.now c.args.session.now) (transaction_of c.args.setting.now.machine.now c.args.transaction.now) statements c.args.rows ended c.work.result tx c.in-Ended.ran all) (ap (option_map (transaction_of c.args.setting.now.machine.now)) c.requires.open) (applied_inside v (machine_of c.args.setting.now.machine.now) (table_of c.args.setting.now.machine.now c.args.sessions.now weight) c.args.session.now.conn (session_of c.args.setting.now.machine.now c.args.session.now) (transaction_of c.args.setting.now.machine.now c.args.transaction.now) statements c.args.rows ended c.work.result tx c.in-Ended.ran all)
    (pages_inside v (machine_of c.args.setting.now.machine.now) (table_of c.args.setting.now.machine.now c.args.sessions.now weight) c.args.session.now.conn (session_of c.args.setting.now.machine.now c.args.session.now) (transaction_of c.args.setting.now.machine.now c.args.transaction.now) statements c.args.rows ended c.work.result tx c.in-Ended.ran all))
