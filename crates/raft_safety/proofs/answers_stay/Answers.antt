use Rattle.raft_safety.proofs.answers_stay.Goals as goal
use Rattle.raft_safety.proofs.Standing.{answered_stays_holds}

pub returns : goal.returns
returns c = answered_stays_holds
