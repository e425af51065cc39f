use Rattle.std.proofs.Common.{Some, sym, ap, subst, ◌∙◌}
use Rattle.std.proofs.lemmas.Result.{IfOk-weaker}
use Rattle.session_spec.specs.Causes.{Cause}
use Rattle.session_spec.specs.Sessions.{Refusal}
use Rattle.session_outcomes.specs.Reading.{read_named}
use Rattle.session_outcomes.specs.Runs.{IsWellFormed}
use Rattle.session_outcomes.proofs.Jobs.{stopped, too_large, told, given_back}
use Rattle.session_outcomes.proofs.job.read_of.Goals as goal

pub returns-in-Stopped : goal.returns-in-Stopped
returns-in-Stopped c = λ tx job ended shows.
    stopped job tx c.args.ending ended c.in-Stopped.fault shows c.in-Stopped.is ∙ ap (λ (cause : Cause). Some (Refusal cause)) (sym c.of_engine.ensures)

pub returns-in-TooLarge : goal.returns-in-TooLarge
returns-in-TooLarge c = λ tx job ended shows. too_large job tx c.args.ending ended c.in-TooLarge._answer shows c.in-TooLarge.is

pub rows_told-requires : goal.rows_told-requires
rows_told-requires c = subst IsWellFormed c.in-Ended.is c.requires

pub returns-then-not-is_unchanged : goal.returns-then-not-is_unchanged
returns-then-not-is_unchanged c = λ tx job ended shows. given_back job tx c.args.ending ended c.in-Ended.ran shows c.in-Ended.is (sym c.is_unchanged.ensures ∙ c.if-not-is_unchanged.true)

pub returns-else-not-is_unchanged : goal.returns-else-not-is_unchanged
returns-else-not-is_unchanged c = λ tx job ended shows.
    IfOk-weaker c.rows_told.result _ _ (λ read tells. told job tx c.args.ending ended c.in-Ended.ran (read_named read) shows c.in-Ended.is (sym c.is_unchanged.ensures ∙ c.if-not-is_unchanged.false) tells) c.rows_told.ensures
