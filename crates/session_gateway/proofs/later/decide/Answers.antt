use Rattle.std.proofs.Common.{◌≡◌, true, Ok, refl, sym, ap, ◌∙◌}
use Rattle.std.proofs.lemmas.Result.{IfOk-weaker}
use Rattle.sql_engine.specs.Replies.{Statement}
use Rattle.session_spec.specs.Machine.{machine_of}
use Rattle.session_spec.specs.Sessions.{View}
use Rattle.session_table.specs.declared.cause.Cause.TheVariants as causes
use Rattle.session_table.specs.Table.{session_of, table_of}
use Rattle.session_outcomes.specs.declared.decision.Decision.TheVariants as decisions
use Rattle.session_gateway.proofs.Laters.{leads, not_leader}
use Rattle.session_gateway.proofs.Numbering.{idle_agrees}
use Rattle.session_gateway.proofs.later.decide.Goals as goal

pub returns-then-not-view-clause-agree : goal.returns-then-not-view-clause-agree
returns-then-not-view-clause-agree g c = idle_agrees _ _ c.args.call.now.number _ (Ok (decisions.Refused causes.NotLeader)) c.args.session.now.transaction (λ tx. refl) c.requires.agree

pub returns-then-not-view-clause-ran : goal.returns-then-not-view-clause-ran
returns-then-not-view-clause-ran g c = λ weight same.
    not_leader _ _ c.args.call.now.view.now (machine_of c.args.machine.now) (table_of c.args.machine.now c.args.sessions.now weight) c.args.session.now.conn (session_of c.args.machine.now c.args.session.now) c.args.query.now _ (sym (ap (λ (v : View). v.serving) c.view.view_is) ∙ c.if-not-view.true)

pub run_single-requires-clause-served : goal.run_single-requires-clause-served
run_single-requires-clause-served g c = record { serves = sym (ap (λ (v : View). v.serving) c.view.view_is) ∙ c.if-not-view.false; opened = c.requires.opened }

pub returns-clause-ran : goal.returns-clause-ran
returns-clause-ran g c = λ weight same.
    let query : Statement = record { text = c.text.result.now; params = c.params.result.now } in
    let is : query ≡ c.args.query.now = (λ i. record { text = c.text.ensures i; params = c.params.ensures i }) in
    let serves : c.args.call.now.view.now.serving ≡ true = sym (ap (λ (v : View). v.serving) c.view.view_is) ∙ c.if-not-view.false in
    IfOk-weaker c.run_single.result _ _
    (λ decision ran. leads _ _ c.args.call.now.view.now (machine_of c.args.machine.now) (table_of c.args.machine.now c.args.sessions.now weight) c.args.session.now.conn (session_of c.args.machine.now c.args.session.now) c.args.query.now query _ _ decision is serves same ran)
    (c.run_single.ensures.ran weight)
