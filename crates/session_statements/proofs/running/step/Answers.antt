use Rattle.session_statements.proofs.Opened.{rose, had_limit}
use Rattle.session_statements.proofs.running.step.Goals as goal

pub returns-in-Err-clause-unopened : goal.returns-in-Err-clause-unopened
returns-in-Err-clause-unopened g c = λ e. rose _ _ c.in-Err.fault c.in-Err.ensures.unopened e

pub returns-in-Err-clause-cut : goal.returns-in-Err-clause-cut
returns-in-Err-clause-cut g c = λ e. had_limit c.args.options.limit c.in-Err.fault c.in-Err.ensures.cut e
