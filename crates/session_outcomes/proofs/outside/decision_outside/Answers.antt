use Rattle.std.proofs.Common.{sym, ap, subst, ◌∙◌}
use Rattle.session_statements.specs.Running.{Shows}
use Rattle.session_spec.specs.Machine.{machine_of}
use Rattle.dq_base.specs.declared.pages.PageSet.{PageSet}
use Rattle.session_table.specs.Table.{table_of, session_of}
use Rattle.session_outcomes.proofs.Shown.{shows_stopped, shows_large, shows_ended}
use Rattle.session_outcomes.proofs.OutsideRun.{stopped_comes, large_comes, idle_comes, write_comes, leads}
use Rattle.session_outcomes.proofs.outside.decision_outside.Goals as goal

pub returns-in-Stopped : goal.returns-in-Stopped
returns-in-Stopped c = λ weight tx statements ended number shows.
    stopped_comes c.args.setting.now.view.now (machine_of c.args.setting.now.machine.now) (table_of c.args.setting.now.machine.now c.args.sessions.now weight) c.args.session.now.conn (session_of c.args.setting.now.machine.now c.args.session.now) statements c.args.rows c.args.name.now c.requires.name ended c.in-Stopped.fault c.of_engine.result (shows_stopped tx _ ended c.in-Stopped.fault (subst (Shows tx _ ended) c.in-Stopped.is shows)) c.of_engine.ensures

pub returns-in-TooLarge : goal.returns-in-TooLarge
returns-in-TooLarge c = λ weight tx statements ended number shows.
    large_comes c.args.setting.now.view.now (machine_of c.args.setting.now.machine.now) (table_of c.args.setting.now.machine.now c.args.sessions.now weight) c.args.session.now.conn (session_of c.args.setting.now.machine.now c.args.session.now) statements c.args.rows c.args.name.now c.requires.name ended c.too_large.result c.in-TooLarge.answer (shows_large tx _ ended c.in-TooLarge.answer (subst (Shows tx _ ended) c.in-TooLarge.is shows)) (c.too_large.ensures weight (session_of c.args.setting.now.machine.now c.args.session.now) ((machine_of c.args.setting.now.machine.now).base c.args.name.now).image)

pub returns-then-is_unchanged : goal.returns-then-is_unchanged
returns-then-is_unchanged c = λ weight tx statements ended number shows.
    let all = shows_ended tx ((machine_of c.args.setting.now.machine.now).base c.args.name.now).image ended c.in-Ended.ran (subst (Shows tx ((machine_of c.args.setting.now.machine.now).base c.args.name.now).image ended) c.in-Ended.is shows) in
    idle_comes c.args.setting.now.view.now (machine_of c.args.setting.now.machine.now) (table_of c.args.setting.now.machine.now c.args.sessions.now weight) c.args.session.now.conn (session_of c.args.setting.now.machine.now c.args.session.now) statements c.args.rows c.args.name.now c.requires.name ended c.idle.result tx c.in-Ended.ran all (sym c.is_unchanged.ensures ∙ c.if-is_unchanged.true) (c.idle.ensures.comes c.args.setting.now.view.now (machine_of c.args.setting.now.machine.now) (session_of c.args.setting.now.machine.now c.args.session.now) _)

pub returns-else-is_unchanged : goal.returns-else-is_unchanged
returns-else-is_unchanged c = λ weight tx statements ended number shows.
    let all = shows_ended tx ((machine_of c.args.setting.now.machine.now).base c.args.name.now).image ended c.in-Ended.ran (subst (Shows tx ((machine_of c.args.setting.now.machine.now).base c.args.name.now).image ended) c.in-Ended.is shows) in
    write_comes c.args.setting.now.view.now (machine_of c.args.setting.now.machine.now) (table_of c.args.setting.now.machine.now c.args.sessions.now weight) c.args.session.now.conn (session_of c.args.setting.now.machine.now c.args.session.now) statements c.args.rows c.args.name.now c.requires.name ended c.write.result tx c.in-Ended.ran all (sym c.is_unchanged.ensures ∙ c.if-is_unchanged.false)
    (c.write.ensures weight (session_of c.args.setting.now.machine.now c.args.session.now) _ all.to (leads c.args.setting.now.view.now (machine_of c.args.setting.now.machine.now) (table_of c.args.setting.now.machine.now c.args.sessions.now weight) c.args.session.now.conn (session_of c.args.setting.now.machine.now c.args.session.now) statements c.args.rows c.args.name.now c.requires.name ended c.write.result tx c.in-Ended.ran all) (λ not_full. ap (λ (set : PageSet). set.tx) all.change ∙ number not_full))
