use Rattle.std.proofs.Common.{subst}
use Rattle.session_spec.specs.Limits.{change_refusal}
use Rattle.session_spec.specs.Machine.{machine_of}
use Rattle.session_table.specs.Table.{table_of}
use Rattle.session_outcomes.specs.Hindered.{Hinders}
use Rattle.session_outcomes.proofs.Turned.{leads_anyway, never_free, taken_not}
use Rattle.session_outcomes.proofs.ran_changes.oversize_refusal.Goals as goal

pub refusal_by_limits-requires-clause-some : goal.refusal_by_limits-requires-clause-some
refusal_by_limits-requires-clause-some c = (taken_not c.args.answer.now.after.pages c.requires.large).0

pub returns-in-Err : goal.returns-in-Err
returns-in-Err c = λ weight to. subst (Hinders c.args.answer.now.after.pages to (change_refusal (machine_of c.args.machine.now) (table_of c.args.machine.now c.args.sessions.now weight) c.args.conn c.args.name.now c.args.mark c.args.answer.now.after.pages to)) c.in-Err.is (c.in_ok-hindered.ensures weight to (leads_anyway c.args.answer.now.after.pages to (taken_not c.args.answer.now.after.pages c.requires.large).1))

pub returns-in-Ok : goal.returns-in-Ok
returns-in-Ok c = λ weight to. absurd (never_free c.args.answer.now.after.pages to (change_refusal (machine_of c.args.machine.now) (table_of c.args.machine.now c.args.sessions.now weight) c.args.conn c.args.name.now c.args.mark c.args.answer.now.after.pages to) c.in-Ok._pages (taken_not c.args.answer.now.after.pages c.requires.large).1 (subst (Hinders c.args.answer.now.after.pages to (change_refusal (machine_of c.args.machine.now) (table_of c.args.machine.now c.args.sessions.now weight) c.args.conn c.args.name.now c.args.mark c.args.answer.now.after.pages to)) c.in-Ok.is (c.in_ok-hindered.ensures weight to (leads_anyway c.args.answer.now.after.pages to (taken_not c.args.answer.now.after.pages c.requires.large).1))))
