use Rattle.std.proofs.Common.{ℕ, List, IfOk, subst}
use Rattle.dq_base.specs.declared.pages.NumberedPage.{NumberedPage}
use Rattle.session_spec.specs.Limits.{change_refusal}
use Rattle.session_spec.specs.Machine.{machine_of}
use Rattle.session_table.specs.Table.{table_of}
use Rattle.session_outcomes.specs.Hindered.{LeadsTo, Hinders}
use Rattle.session_outcomes.proofs.commit.refused_commit.Goals as goal

pub returns : goal.returns
returns c = λ weight to leads.
    let m = machine_of c.args.machine.now in
    let g = table_of c.args.machine.now c.args.sessions.now weight in
    let mark = c.args.transaction.now.mark in
    let slice = c.as_slice.result.now in
    subst (λ (pages : List NumberedPage). LeadsTo pages to → IfOk c.change_refusal.result (Hinders pages to (change_refusal m g c.args.conn c.args.transaction.now.name mark pages to))) c.as_slice.ensures.value
    (subst (λ (name : List ℕ). LeadsTo slice to → IfOk c.change_refusal.result (Hinders slice to (change_refusal m g c.args.conn name mark slice to))) c.as_str-name.ensures.value (λ l. c.change_refusal.ensures weight to l)) leads
