use Rattle.std.proofs.Common.{IfOk, sym, subst, ap, ◌∙◌}
use Rattle.dq_base.specs.declared.pages.PageSet.{PageSet}
use Rattle.session_spec.specs.Engines.{no_pages}
use Rattle.session_spec.specs.Limits.{change_refusal}
use Rattle.session_spec.specs.Machine.{machine_of}
use Rattle.session_table.specs.Table.{table_of}
use Rattle.session_outcomes.specs.Hindered.{LeadsTo, Hinders}
use Rattle.session_outcomes.specs.Runs.{AreTaken}
use Rattle.session_outcomes.proofs.Turned.{taken_of}
use Rattle.session_outcomes.proofs.ran_changes.refused_change.Goals as goal

pub refusal_by_limits-requires-clause-some : goal.refusal_by_limits-requires-clause-some
refusal_by_limits-requires-clause-some c = ap (λ (set : PageSet). no_pages set.pages) c.change.ensures ∙ c.requires.some

pub returns-clause-hinders : goal.returns-clause-hinders
returns-clause-hinders c = λ weight to leads. subst (λ (set : PageSet). IfOk c.refusal_by_limits.result (Hinders set.pages to (change_refusal (machine_of c.args.machine.now) (table_of c.args.machine.now c.args.sessions.now weight) c.args.conn c.args.name.now c.args.mark set.pages to))) c.change.ensures (c.refusal_by_limits.ensures weight to (subst (λ (set : PageSet). LeadsTo set.pages to) (sym c.change.ensures) leads))

pub returns-clause-taken : goal.returns-clause-taken
returns-clause-taken c = subst (λ (set : PageSet). IfOk c.refusal_by_limits.result (AreTaken set.pages)) c.change.ensures (taken_of c.change.result.now.pages _ c.refusal_by_limits.result (λ to leads. c.refusal_by_limits.ensures 0 to leads))
