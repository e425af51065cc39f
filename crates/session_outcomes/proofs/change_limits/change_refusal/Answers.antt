use Rattle.std.proofs.Common.{subst}
use Rattle.session_spec.specs.Machine.{machine_of}
use Rattle.session_spec.specs.Limits.{too_full}
use Rattle.session_table.specs.Table.{table_of}
use Rattle.session_outcomes.specs.Hindered.{HasRoom}
use Rattle.session_outcomes.proofs.Hinders.{is_locked, is_old, is_full, is_free}
use Rattle.session_outcomes.proofs.change_limits.change_refusal.Goals as goal

pub returns-then-other_holds : goal.returns-then-other_holds
returns-then-other_holds c = λ weight to leads. is_locked (machine_of c.args.machine.now) (table_of c.args.machine.now c.args.sessions.now weight) c.args.conn c.args.name.now c.args.mark c.args.pages.now to _ (c.other_holds.ensures c.args.machine.now weight) c.if-other_holds.true

pub returns-then-is_out_of_date : goal.returns-then-is_out_of_date
returns-then-is_out_of_date c = λ weight to leads. is_old (machine_of c.args.machine.now) (table_of c.args.machine.now c.args.sessions.now weight) c.args.conn c.args.name.now c.args.mark c.args.pages.now to _ _ (c.other_holds.ensures c.args.machine.now weight) c.is_out_of_date.ensures c.if-other_holds.false c.if-is_out_of_date.true

pub returns-in-None : goal.returns-in-None
returns-in-None c = λ weight to leads. is_full (machine_of c.args.machine.now) (table_of c.args.machine.now c.args.sessions.now weight) c.args.conn c.args.name.now c.args.mark c.args.pages.now to _ _ (c.other_holds.ensures c.args.machine.now weight) c.is_out_of_date.ensures c.if-other_holds.false c.if-is_out_of_date.false (subst (HasRoom c.args.pages.now to (too_full (machine_of c.args.machine.now) (table_of c.args.machine.now c.args.sessions.now weight) c.args.name.now c.args.pages.now to)) c.in-None.is (c.in_ok-count.ensures weight to leads))

pub returns-in-Some : goal.returns-in-Some
returns-in-Some c = λ weight to leads. is_free (machine_of c.args.machine.now) (table_of c.args.machine.now c.args.sessions.now weight) c.args.conn c.args.name.now c.args.mark c.args.pages.now to _ _ c.in-Some.count (c.other_holds.ensures c.args.machine.now weight) c.is_out_of_date.ensures c.if-other_holds.false c.if-is_out_of_date.false (subst (HasRoom c.args.pages.now to (too_full (machine_of c.args.machine.now) (table_of c.args.machine.now c.args.sessions.now weight) c.args.name.now c.args.pages.now to)) c.in-Some.is (c.in_ok-count.ensures weight to leads))
