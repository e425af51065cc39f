use Rattle.raft_safety.proofs.whole_logs.Goals as goal
use Rattle.raft_safety.proofs.Chosens.{whole_logs_hold, cuts_applied_hold}

pub returns-clause-logs : goal.returns-clause-logs
returns-clause-logs c = whole_logs_hold

pub returns-clause-cuts : goal.returns-clause-cuts
returns-clause-cuts c = cuts_applied_hold
