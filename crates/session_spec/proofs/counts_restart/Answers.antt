use Rattle.session_spec.proofs.RestartedRequests.{counts_restart_hold, laters_restart_hold}
use Rattle.session_spec.proofs.counts_restart.Goals as goal

pub returns-clause-requests : goal.returns-clause-requests
returns-clause-requests c = counts_restart_hold

pub returns-clause-later : goal.returns-clause-later
returns-clause-later c = laters_restart_hold
