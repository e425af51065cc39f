use Rattle.script_falls.proofs.Refused.{no_stop_overlooked, no_failure_overlooked, no_unreadable_overlooked}
use Rattle.script_falls.proofs.refusals.refuses_an_overlooked_fall.Goals as goal

pub returns-clause-stops : goal.returns-clause-stops
returns-clause-stops c = no_stop_overlooked

pub returns-clause-fails : goal.returns-clause-fails
returns-clause-fails c = no_failure_overlooked

pub returns-clause-unreadable : goal.returns-clause-unreadable
returns-clause-unreadable c = no_unreadable_overlooked
