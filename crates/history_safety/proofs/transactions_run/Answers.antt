use Rattle.history_safety.proofs.Staying.{transactions_run_hold, changes_are_run_hold}
use Rattle.history_safety.proofs.transactions_run.Goals as goal

pub returns-clause-open : goal.returns-clause-open
returns-clause-open g c kind = transactions_run_hold _

pub returns-clause-changes : goal.returns-clause-changes
returns-clause-changes g c kind = changes_are_run_hold _
