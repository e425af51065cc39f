use Rattle.raft_safety.proofs.snapshots_chosen.Goals as goal
use Rattle.raft_safety.proofs.Fronts.{snapshots_chosen_holds}

pub returns : goal.returns
returns c = snapshots_chosen_holds
