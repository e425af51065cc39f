use Rattle.std.proofs.Common.{◌≡◌, ℕ, List, None, subst}
use Rattle.session_spec.specs.Causes.{Locked}
use Rattle.session_spec.specs.Limits.{first_cause, other_holds}
use Rattle.session_spec.specs.Machine.{machine_of}
use Rattle.session_table.specs.Table.{table_of}
use Rattle.session_requests.specs.Meant.{hinders_named}
use Rattle.session_requests.proofs.Hindered.{inside, outside}
use Rattle.session_requests.proofs.write_hindrance.write_hindrance.Goals as goal

pub returns-in-Some : goal.returns-in-Some
returns-in-Some c = λ weight.
    inside (machine_of c.args.machine.now) (table_of c.args.machine.now c.args.sessions.now weight) c.args.machine.now c.args.session.now
    (hinders_named c.hindrance_inside.result) c.in-Some.transaction c.in-Some.is (c.hindrance_inside.ensures c.args.machine.now weight)

pub returns-in-None : goal.returns-in-None
returns-in-None c = λ weight.
    let g = table_of c.args.machine.now c.args.sessions.now weight in
    outside (machine_of c.args.machine.now) g c.args.machine.now c.args.session.now (hinders_named c.hindrance_outside.result) c.in-None.is
    (subst (λ (name : List ℕ). hinders_named c.hindrance_outside.result ≡ first_cause (other_holds g c.args.session.now.conn name) Locked None)
    c.name_of.ensures (c.hindrance_outside.ensures c.args.machine.now weight))
