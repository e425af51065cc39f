use Rattle.std.proofs.Common.{not, refl, None, Some}
use Rattle.std.specs.Prelude.{◌==◌}
use Rattle.session_spec.specs.Causes.{Locked, OutOfDate}
use Rattle.session_spec.specs.Limits.{first_cause, other_holds}
use Rattle.session_spec.specs.Machine.{machine_of}
use Rattle.session_table.specs.Table.{table_of}
use Rattle.session_requests.proofs.Hindered.{held, free}
use Rattle.session_requests.proofs.write_hindrance.hindrance_inside.Goals as goal

pub returns-then-is_held : goal.returns-then-is_held
returns-then-is_held c = λ databases weight.
    let holds = other_holds (table_of databases c.args.sessions.now weight) c.args.conn c.args.name.now in
    let old = not (((machine_of c.args.machine.now).base c.args.name.now).newest == c.args.mark) in
    held c.is_held.result holds Locked (first_cause old OutOfDate None) (c.is_held.ensures databases weight) c.if-is_held.true

pub returns-then-is_old : goal.returns-then-is_old
returns-then-is_old c = λ databases weight.
    let holds = other_holds (table_of databases c.args.sessions.now weight) c.args.conn c.args.name.now in
    let old = not (((machine_of c.args.machine.now).base c.args.name.now).newest == c.args.mark) in
    free c.is_held.result holds Locked (first_cause old OutOfDate None) (Some OutOfDate) (c.is_held.ensures databases weight) c.if-is_held.false
    (held c.is_old.result old OutOfDate None c.is_old.ensures c.if-is_old.true)

pub returns : goal.returns
returns c = λ databases weight.
    let holds = other_holds (table_of databases c.args.sessions.now weight) c.args.conn c.args.name.now in
    let old = not (((machine_of c.args.machine.now).base c.args.name.now).newest == c.args.mark) in
    free c.is_held.result holds Locked (first_cause old OutOfDate None) None (c.is_held.ensures databases weight) c.if-is_held.false
    (free c.is_old.result old OutOfDate None None c.is_old.ensures c.if-is_old.false refl)
