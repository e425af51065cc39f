use Rattle.std.proofs.Common.{◌≡◌, Bool, true, [], sym, ap, subst, ◌∙◌}
use Rattle.std.specs.Prelude.{IfOk}
use Rattle.std.proofs.lemmas.Bool.{cond-true}
use Rattle.std.proofs.lemmas.Result.{IfOk-weaker}
use Rattle.session_spec.specs.Asking.{Never, asks_open, barriers_asked}
use Rattle.session_spec.specs.Causes.{NotLeader}
use Rattle.session_spec.specs.Machine.{machine_of}
use Rattle.session_spec.specs.Sessions.{View}
use Rattle.session_table.specs.Table.{session_of, table_of}
use Rattle.session_requests.specs.declared.wanted.RequestPlan.{RequestPlan}
use Rattle.session_requests.specs.Meant.{meant}
use Rattle.session_requests.proofs.request.opens.Goals as goal

pub returns : goal.returns
returns c = λ weight.
    let serving : c.args.view.now.serving ≡ true = sym (ap (λ (v : View). v.serving) c.view.view_is) ∙ c.if-not-view.false in
    IfOk-weaker c.wanted_by_open.result _ _ (λ w e. e ∙ sym (cond-true c.args.view.now.serving (asks_open c.args.view.now (machine_of c.args.machine.now) (table_of c.args.machine.now c.args.sessions.now weight) (session_of c.args.machine.now c.args.session.now) c.args.name.now (barriers_asked c.args.flags)) (Never NotLeader) serving)) (subst (λ (b : Bool). IfOk c.wanted_by_open.result (λ (w : RequestPlan). meant [] w ≡ asks_open c.args.view.now (machine_of c.args.machine.now) (table_of c.args.machine.now c.args.sessions.now weight) (session_of c.args.machine.now c.args.session.now) c.args.name.now b)) c.barriers_asked.ensures (c.wanted_by_open.ensures weight))
