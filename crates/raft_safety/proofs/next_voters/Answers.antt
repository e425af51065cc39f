use Rattle.raft_safety.proofs.next_voters.Goals as goal
use Rattle.raft_safety.proofs.NextVoters.{next_voters_hold}

pub returns : goal.returns
returns c = next_voters_hold
