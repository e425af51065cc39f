use Rattle.raft_safety.proofs.none_lost.Goals as goal
use Rattle.raft_safety.proofs.Losts.{none_lost_holds}

pub returns : goal.returns
returns c = none_lost_holds
