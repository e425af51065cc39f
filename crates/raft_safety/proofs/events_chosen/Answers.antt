use Rattle.raft_safety.proofs.events_chosen.Goals as goal
use Rattle.raft_safety.proofs.Standing.{events_chosen_holds}

pub returns : goal.returns
returns c = events_chosen_holds
