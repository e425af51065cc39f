use Rattle.script_runner.proofs.Agreement.{keeps_alike}
use Rattle.script_runner.proofs.Likeness.{run_twin}
use Rattle.script_runner.proofs.laws.runs_keep_alike.Goals as goal

pub returns-clause-alike : goal.returns-clause-alike
returns-clause-alike c = keeps_alike

pub returns-clause-turns : goal.returns-clause-turns
returns-clause-turns c = λ script outcomes. (run_twin script outcomes).turns_are

pub returns-clause-journal : goal.returns-clause-journal
returns-clause-journal c = λ script outcomes. (run_twin script outcomes).journal_is
