use Rattle.std.proofs.Common.{sym, subst, ◌∙◌}
use Rattle.std.proofs.lemmas.Result.{IfOk-weaker, err_from_is_err_and}
use Rattle.database_state.specs.Files.{empty_image}
use Rattle.sql_engine.specs.Replies.{Statement}
use Rattle.session_spec.specs.Machine.{machine_of}
use Rattle.session_spec.specs.Requests.{barrier_first}
use Rattle.session_table.specs.Table.{table_of, session_of}
use Rattle.session_table.specs.Working.{works_of}
use Rattle.session_outcomes.specs.Turning.{MatchesOutcome}
use Rattle.session_outcomes.proofs.NeverUnopened.{barrier_opened}
use Rattle.session_outcomes.proofs.Queries.{waits, runs_now}
use Rattle.session_outcomes.proofs.Works.{agree_idle, agree_later}
use Rattle.session_outcomes.proofs.reading.read_statement.Goals as goal

pub returns-in_err-query-clause-agree : goal.returns-in_err-query-clause-agree
returns-in_err-query-clause-agree g c =
    let p = err_from_is_err_and c.from_residual.result c.from_residual.ensures.1 in
    rw p.1 (agree_later _ (works_of c.args.sessions.now) c.args.setting.now.number _ empty_image c.requires.agree)

pub returns-then-waits_first-clause-agree : goal.returns-then-waits_first-clause-agree
returns-then-waits_first-clause-agree g c = agree_idle _ (works_of c.args.sessions.now) c.args.setting.now.number _ c.waiting.result c.args.session.now.transaction c.waiting.ensures.works c.requires.agree

pub returns-then-waits_first-clause-unopened : goal.returns-then-waits_first-clause-unopened
returns-then-waits_first-clause-unopened g c =
    IfOk-weaker c.waiting.result _ _ (λ decision comes is. absurd (barrier_opened c.args.setting.now.view.now (machine_of c.args.setting.now.machine.now) (session_of c.args.setting.now.machine.now c.args.session.now) _ decision comes is))
    (c.waiting.ensures.comes (machine_of c.args.setting.now.machine.now) (session_of c.args.setting.now.machine.now c.args.session.now))

pub returns-then-waits_first-clause-ran : goal.returns-then-waits_first-clause-ran
returns-then-waits_first-clause-ran g c = λ weight.
    let v = c.args.setting.now.view.now in
    let m = machine_of c.args.setting.now.machine.now in
    let s = session_of c.args.setting.now.machine.now c.args.session.now in
    let kind = g.E.Engine.kind c.args.engine.now in
    let asked : Statement = record { text = c.args.text; params = c.args.params } in
    IfOk-weaker c.waiting.result _ _
    (λ decision comes. waits (g.E.Engine.meaning kind) kind v m (table_of c.args.setting.now.machine.now c.args.sessions.now weight) c.args.session.now.conn s asked (g.E.Engine.told c.args.engine.now) decision (sym (c.waits_first.ensures c.args.setting.now.machine.now) ∙ c.if-waits_first.true)
    (subst (λ (query : Statement). MatchesOutcome v m s (barrier_first v s query) decision) c.in_ok-query.ensures comes))
    (c.waiting.ensures.comes m s)

pub returns-clause-ran : goal.returns-clause-ran
returns-clause-ran g c = λ weight.
    IfOk-weaker c.read_now.result _ _ (λ decision comes. runs_now _ _ c.args.setting.now.view.now (machine_of c.args.setting.now.machine.now) (table_of c.args.setting.now.machine.now c.args.sessions.now weight) c.args.session.now.conn (session_of c.args.setting.now.machine.now c.args.session.now) _ _ _ decision (sym (c.waits_first.ensures c.args.setting.now.machine.now) ∙ c.if-waits_first.false) comes)
    (c.read_now.ensures.ran weight)
