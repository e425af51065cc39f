use Rattle.std.proofs.lemmas.Bool.{both_ways}
use Rattle.session_statements.proofs.Opened.{rose, had_limit}
use Rattle.session_statements.proofs.Reaching.{ran_alone, failed_alone}
use Rattle.session_statements.proofs.running.run_unnumbered.Goals as goal

pub returns-in-Ok-clause-ran : goal.returns-in-Ok-clause-ran
returns-in-Ok-clause-ran g c = rw c.ending_of.ensures.ending (ran_alone _ _ _ _ _ _ _ _ c.in-Ok.ensures.answers c.in-Ok.ensures.told)

pub returns-in-Err-clause-ran : goal.returns-in-Err-clause-ran
returns-in-Err-clause-ran g c = failed_alone _ _ _ _ _ _ _ _ c.in-Err.ensures.faults c.in-Err.ensures.told

pub returns-in-Ok-clause-unopened : goal.returns-in-Ok-clause-unopened
returns-in-Ok-clause-unopened g c = λ e. absurd (both_ways _ c.ending_of.ensures.opened e)

pub returns-in-Err-clause-unopened : goal.returns-in-Err-clause-unopened
returns-in-Err-clause-unopened g c = λ e. rose _ _ c.in-Err.fault c.in-Err.ensures.unopened e

pub returns-in-Ok-clause-cut : goal.returns-in-Ok-clause-cut
returns-in-Ok-clause-cut g c = λ e. absurd (both_ways _ c.ending_of.ensures.uncut e)

pub returns-in-Err-clause-cut : goal.returns-in-Err-clause-cut
returns-in-Err-clause-cut g c = λ e. had_limit c.args.options.limit c.in-Err.fault c.in-Err.ensures.cut e
