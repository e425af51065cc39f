use Rattle.std.proofs.Common.{sym, subst, ◌∙◌}
use Rattle.std.proofs.lemmas.Result.{IfOk-weaker}
use Rattle.session_spec.specs.Machine.{machine_of}
use Rattle.session_spec.specs.Requests.{ground, was_cut}
use Rattle.session_table.specs.Table.{transaction_of, session_of, table_of}
use Rattle.session_table.specs.Working.{AreAmong}
use Rattle.session_outcomes.specs.Numbers.{work_left}
use Rattle.session_outcomes.specs.Reading.{cut_off}
use Rattle.session_outcomes.proofs.Queries.{cut_shown, lent_where, lends, goes_on}
use Rattle.session_outcomes.proofs.reading.decision_of_query.Goals as goal

pub returns-then-is_lent-clause-works : goal.returns-then-is_lent-clause-works
returns-then-is_lent-clause-works c =
    let here = ground (machine_of c.args.setting.now.machine.now) (session_of c.args.setting.now.machine.now c.args.session.now) (session_of c.args.setting.now.machine.now c.args.session.now).tx in
    IfOk-weaker c.lent.result _ _ (λ decision none. subst (AreAmong (work_left here c.args.setting.now.number c.args.ending)) (sym none) tt) c.lent.ensures.works

pub returns-then-is_lent-clause-comes : goal.returns-then-is_lent-clause-comes
returns-then-is_lent-clause-comes c = λ weight tx ended number shows.
    lends c.args.setting.now.view.now (machine_of c.args.setting.now.machine.now) (table_of c.args.setting.now.machine.now c.args.sessions.now weight) c.args.session.now.conn (session_of c.args.setting.now.machine.now c.args.session.now) (record { text = c.args.text; params = c.args.params }) c.lent.result (session_of c.args.setting.now.machine.now c.args.session.now).tx ended
    (lent_where (transaction_of c.args.setting.now.machine.now) c.args.session.now.transaction c.args.setting.now.view.now.readers (was_cut ended) (cut_off c.args.ending) c.is_lent.result c.is_lent.ensures (cut_shown tx _ ended c.args.ending shows) ∙ c.if-is_lent.true)
    (c.lent.ensures.comes c.args.setting.now.view.now)

pub returns-clause-comes : goal.returns-clause-comes
returns-clause-comes c = λ weight tx ended number shows.
    goes_on c.args.setting.now.view.now (machine_of c.args.setting.now.machine.now) (table_of c.args.setting.now.machine.now c.args.sessions.now weight) c.args.session.now.conn (session_of c.args.setting.now.machine.now c.args.session.now) (record { text = c.args.text; params = c.args.params }) c.decision_of.result (session_of c.args.setting.now.machine.now c.args.session.now).tx ended
    (lent_where (transaction_of c.args.setting.now.machine.now) c.args.session.now.transaction c.args.setting.now.view.now.readers (was_cut ended) (cut_off c.args.ending) c.is_lent.result c.is_lent.ensures (cut_shown tx _ ended c.args.ending shows) ∙ c.if-is_lent.false)
    (c.decision_of.ensures.comes weight tx _ ended number shows)
