use Rattle.std.proofs.Common.{◌≡◌, true, Option, Ok, IfOk, sym, ap, subst, ◌∙◌}
use Rattle.dq_base.specs.declared.pages.PageSet.{PageSet}
use Rattle.dq_base.specs.Applying.{applied}
use Rattle.session_spec.specs.Causes.{Cause}
use Rattle.session_spec.specs.Limits.{change_refusal}
use Rattle.session_spec.specs.Machine.{machine_of}
use Rattle.session_spec.specs.Sessions.{Answers}
use Rattle.session_spec.specs.Requests.{unless, row_cause, reply_of, worked}
use Rattle.session_table.specs.Table.{table_of}
use Rattle.session_table.specs.declared.session.Transaction.{Transaction}
use Rattle.session_table.specs.Working.{work_with, AreAmong}
use Rattle.session_outcomes.specs.Numbers.{work_in}
use Rattle.session_outcomes.specs.Turning.{MatchesOutcome}
use Rattle.session_statements.specs.Running.{change_in}
use Rattle.session_outcomes.specs.Hindered.{Hinders}
use Rattle.session_outcomes.proofs.inside.work.Goals as goal

pub returns-in-Err-clause-comes : goal.returns-in-Err-clause-comes
returns-in-Err-clause-comes c = λ weight v s x note to leads begun reaches lists.
    let pages = (change_in c.args.ran).pages in
    c.refused.ensures.comes (change_refusal (machine_of c.args.setting.now.machine.now) (table_of c.args.setting.now.machine.now c.args.sessions.now weight) c.args.conn c.args.transaction.now.name c.args.transaction.now.mark pages to) (subst (Hinders pages to (change_refusal (machine_of c.args.setting.now.machine.now) (table_of c.args.setting.now.machine.now c.args.sessions.now weight) c.args.conn c.args.transaction.now.name c.args.transaction.now.mark pages to)) c.in-Err.is (c.in_ok-hindered.ensures.hinders weight to leads)) v (machine_of c.args.setting.now.machine.now) s _

pub returns-clause-comes : goal.returns-clause-comes
returns-clause-comes c = λ weight v s x note to leads begun reaches lists.
    let pages = (change_in c.args.ran).pages in
    let found : Hinders pages to (change_refusal (machine_of c.args.setting.now.machine.now) (table_of c.args.setting.now.machine.now c.args.sessions.now weight) c.args.conn c.args.transaction.now.name c.args.transaction.now.mark pages to) (Ok c.in-Ok._count) = subst (Hinders pages to (change_refusal (machine_of c.args.setting.now.machine.now) (table_of c.args.setting.now.machine.now c.args.sessions.now weight) c.args.conn c.args.transaction.now.name c.args.transaction.now.mark pages to)) c.in-Ok.is (c.in_ok-hindered.ensures.hinders weight to leads) in
    let image : applied x.working c.in_ok-set-in-Ok.set.pages ≡ to = ap (λ (set : PageSet). applied x.working set.pages) c.in_ok-set-in-Ok.ensures ∙ reaches in
    subst (λ (h : Option Cause). IfOk c.worked.result (MatchesOutcome v (machine_of c.args.setting.now.machine.now) s (unless (row_cause c.args.rows c.args.ran.answer h) (Answers (worked s x to true) (reply_of c.args.rows c.args.ran.answer) note)))) (sym found.0)
    (c.worked.ensures.comes v (machine_of c.args.setting.now.machine.now) s x note to begun image (ap (λ (set : PageSet). set.pages) c.in_ok-set-in-Ok.ensures ∙ lists))

pub returns-clause-works : goal.returns-clause-works
returns-clause-works c =
    subst (λ (set : PageSet). IfOk c.worked.result (λ decision. (tx : Option Transaction) → AreAmong (work_with set.pages c.args.setting.now.number tx) (work_in decision tx))) c.in_ok-set-in-Ok.ensures c.worked.ensures.works
