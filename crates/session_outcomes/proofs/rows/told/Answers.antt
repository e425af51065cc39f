use Rattle.std.proofs.Common.{subst}
use Rattle.session_table.specs.Named.{TellsRows}
use Rattle.session_outcomes.proofs.RowsTold.{plain_told, rows_told, rows_refused}
use Rattle.session_outcomes.proofs.rows.told.Goals as goal

pub returns-then-not-rows : goal.returns-then-not-rows
returns-then-not-rows c = plain_told c.args.rows c.args.answer c.if-not-rows.true

pub returns-in-Ok : goal.returns-in-Ok
returns-in-Ok c = rows_told c.args.rows c.args.answer c.in-Ok.rows c.if-not-rows.false (subst (TellsRows c.args.answer) c.in-Ok.is c.in_ok-rows.ensures)

pub returns-in-Err : goal.returns-in-Err
returns-in-Err c = rows_refused c.args.rows c.args.answer c.in-Err.cause c.if-not-rows.false (subst (TellsRows c.args.answer) c.in-Err.is c.in_ok-rows.ensures)
