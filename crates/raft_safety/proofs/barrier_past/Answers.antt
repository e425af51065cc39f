use Rattle.raft_safety.proofs.barrier_past.Goals as goal
use Rattle.raft_safety.proofs.Standing.{barrier_past_holds}

pub returns : goal.returns
returns c = barrier_past_holds
