use Rattle.raft_safety.proofs.applied_stays.Goals as goal
use Rattle.raft_safety.proofs.Standing.{applied_stays_holds}

pub returns : goal.returns
returns c = applied_stays_holds
