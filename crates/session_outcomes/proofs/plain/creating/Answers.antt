use Rattle.std.proofs.Common.{ℕ, List, sym, ap, ◌∙◌}
use Rattle.std.specs.Prelude.{nat_lt}
use Rattle.std.proofs.lemmas.Result.{IfOk-weaker}
use Rattle.session_spec.specs.Machine.{machine_of}
use Rattle.session_spec.specs.Requests.{with_barriers, does}
use Rattle.session_spec.specs.Limits.{pages_with}
use Rattle.session_table.specs.Table.{session_of, table_of}
use Rattle.session_outcomes.proofs.Flights.{full_creates, new_creates}
use Rattle.session_outcomes.proofs.plain.creating.Goals as goal

pub returns-then-branch-clause-comes : goal.returns-then-branch-clause-comes
unfolding does
returns-then-branch-clause-comes c = λ weight conn answers.
    full_creates c.args.view.now (machine_of c.args.machine.now) (table_of c.args.machine.now c.args.sessions.now weight) (session_of c.args.machine.now c.args.session.now) (with_barriers (session_of c.args.machine.now c.args.session.now) c.args.barriers) c.args.name
    (ap (λ (n : List ℕ). nat_lt 16384 (pages_with (machine_of c.args.machine.now) (table_of c.args.machine.now c.args.sessions.now weight) n 1)) (sym c.as_str.ensures.value) ∙ sym (c.in_ok-pages_full.ensures weight) ∙ c.if-branch.true)

pub returns-clause-comes : goal.returns-clause-comes
unfolding does
returns-clause-comes c = λ weight conn answers.
    IfOk-weaker c.opening.result _ _
    (λ decision h. new_creates c.args.view.now (machine_of c.args.machine.now) (table_of c.args.machine.now c.args.sessions.now weight) (session_of c.args.machine.now c.args.session.now) (with_barriers (session_of c.args.machine.now c.args.session.now) c.args.barriers) c.args.name decision
    (ap (λ (n : List ℕ). nat_lt 16384 (pages_with (machine_of c.args.machine.now) (table_of c.args.machine.now c.args.sessions.now weight) n 1)) (sym c.as_str.ensures.value) ∙ sym (c.in_ok-pages_full.ensures weight) ∙ c.if-branch.false) h)
    (c.opening.ensures.comes (machine_of c.args.machine.now) (session_of c.args.machine.now c.args.session.now))
