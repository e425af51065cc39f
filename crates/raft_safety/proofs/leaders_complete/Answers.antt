use Rattle.raft_safety.proofs.leaders_complete.Goals as goal
use Rattle.raft_safety.proofs.Laws.{leaders_complete_holds}

pub returns : goal.returns
returns c = leaders_complete_holds
