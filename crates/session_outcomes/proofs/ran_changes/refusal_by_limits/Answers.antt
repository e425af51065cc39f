use Rattle.std.proofs.Common.{ℕ, List, IfOk, sym, subst, ap, ◌∙◌}
use Rattle.dq_base.specs.declared.pages.NumberedPage.{NumberedPage}
use Rattle.session_spec.specs.Engines.{no_pages}
use Rattle.session_spec.specs.Limits.{change_refusal}
use Rattle.session_spec.specs.Machine.{machine_of}
use Rattle.session_table.specs.Table.{table_of}
use Rattle.session_outcomes.specs.Hindered.{LeadsTo, Hinders}
use Rattle.session_outcomes.proofs.ran_changes.refusal_by_limits.Goals as goal

pub change_refusal-requires-clause-some : goal.change_refusal-requires-clause-some
change_refusal-requires-clause-some c = ap no_pages c.as_slice-pages.ensures ∙ c.requires.some

pub returns : goal.returns
returns c = λ weight to leads.
    subst (λ (name : List ℕ). IfOk c.change_refusal.result (Hinders c.args.set.now.pages to (change_refusal (machine_of c.args.machine.now) (table_of c.args.machine.now c.args.sessions.now weight) c.args.conn name c.args.mark c.args.set.now.pages to))) c.as_str.ensures.value
    (subst (λ (pages : List NumberedPage). IfOk c.change_refusal.result (Hinders pages to (change_refusal (machine_of c.args.machine.now) (table_of c.args.machine.now c.args.sessions.now weight) c.args.conn c.as_str.result.now c.args.mark pages to))) c.as_slice-pages.ensures (c.change_refusal.ensures weight to (subst (λ (pages : List NumberedPage). LeadsTo pages to) (sym c.as_slice-pages.ensures) leads)))
