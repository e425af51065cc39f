use Rattle.std.proofs.Common.{◌≡◌, Option, Some, None, sym, subst, ◌∙◌}
use Rattle.std.proofs.lemmas.Result.{IfOk-weaker}
use Rattle.session_spec.specs.Asking.{asks_lost, unless_lost, Never}
use Rattle.session_spec.specs.Causes.{NotLeader}
use Rattle.session_spec.specs.Machine.{machine_of}
use Rattle.session_table.specs.Table.{session_of, table_of}
use Rattle.session_requests.specs.declared.wanted.RequestPlan.{RequestPlan}
use Rattle.session_requests.specs.Meant.{IsAllowed, params_of, planned_or}
use Rattle.session_requests.proofs.Allowed.{all_allowed, both_ok, wanted_lost, wanted_otherwise}
use Rattle.session_requests.proofs.Plain.{lost_can}
use Rattle.session_requests.proofs.request.wanted_by.Goals as goal

pub returns-in-Some-clause-wants : goal.returns-in-Some-clause-wants
returns-in-Some-clause-wants c =
    let s = session_of c.args.machine.now c.args.session.now in
    wanted_lost c.args.view.now (machine_of c.args.machine.now) (table_of c.args.machine.now c.args.sessions.now c.args.weight) c.args.session.now.conn s
    c.args.request.now (params_of c.args.request.now) c.in-Some.wanted
    (λ asked. subst (λ (o : Option RequestPlan). unless_lost s.lost (asks_lost s c.args.request.now) asked ≡ planned_or (params_of c.args.request.now) o asked)
    c.in-Some.is (c.in_ok-lost.ensures c.args.machine.now asked))

pub returns-in-Some-clause-can : goal.returns-in-Some-clause-can
returns-in-Some-clause-can c =
    let s = session_of c.args.machine.now c.args.session.now in
    let wants = returns-in-Some-clause-wants c in
    record {
      allowed = subst (IsAllowed c.args.view.now s) (sym wants)
          (all_allowed c.args.view.now (machine_of c.args.machine.now) (table_of c.args.machine.now c.args.sessions.now c.args.weight) c.args.session.now.conn s c.args.request.now);
      fits = lost_can c.args.session.now.statements.items (params_of c.args.request.now) c.in-Some.wanted s c.args.request.now
          (subst (λ (o : Option RequestPlan). unless_lost s.lost (asks_lost s c.args.request.now) (Never NotLeader) ≡ planned_or (params_of c.args.request.now) o (Never NotLeader))
          c.in-Some.is (c.in_ok-lost.ensures c.args.machine.now (Never NotLeader)));
    }

pub returns-in-None-clause-wants : goal.returns-in-None-clause-wants
returns-in-None-clause-wants c =
    let s = session_of c.args.machine.now c.args.session.now in
    let same = wanted_otherwise c.args.view.now (machine_of c.args.machine.now) (table_of c.args.machine.now c.args.sessions.now c.args.weight) c.args.session.now.conn s
    c.args.request.now (params_of c.args.request.now)
    (λ asked. subst (λ (o : Option RequestPlan). unless_lost s.lost (asks_lost s c.args.request.now) asked ≡ planned_or (params_of c.args.request.now) o asked)
    c.in-None.is (c.in_ok-lost.ensures c.args.machine.now asked)) in
    IfOk-weaker c.ask.result _ _ (λ w e. e ∙ same) c.ask.ensures.wants

pub returns-in-None-clause-can : goal.returns-in-None-clause-can
returns-in-None-clause-can c =
    let s = session_of c.args.machine.now c.args.session.now in
    both_ok c.ask.result _ _ _
    (λ w e f. record {
      allowed = subst (IsAllowed c.args.view.now s) (sym e)
          (all_allowed c.args.view.now (machine_of c.args.machine.now) (table_of c.args.machine.now c.args.sessions.now c.args.weight) c.args.session.now.conn s c.args.request.now);
      fits = f;
    })
    (returns-in-None-clause-wants c) c.ask.ensures.fits
