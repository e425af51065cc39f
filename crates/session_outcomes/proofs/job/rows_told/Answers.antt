use Rattle.std.proofs.Common.{subst}
use Rattle.session_table.specs.Named.{TellsRows}
use Rattle.session_outcomes.proofs.Jobs.{told_rows, told_why}
use Rattle.session_outcomes.proofs.job.rows_told.Goals as goal

pub returns-in-Ok : goal.returns-in-Ok
returns-in-Ok c = told_rows c.args.answer c.in-Ok.rows (subst (TellsRows c.args.answer) c.in-Ok.is c.in_ok-rows.ensures)

pub returns-in-Err : goal.returns-in-Err
returns-in-Err c = told_why c.args.answer c.in-Err.cause (subst (TellsRows c.args.answer) c.in-Err.is c.in_ok-rows.ensures)
