use Rattle.raft_safety.proofs.SnapFronts.{snapshot_fronts_hold}
use Rattle.raft_safety.proofs.snapshot_fronts.Goals as goal

pub returns : goal.returns
returns c = snapshot_fronts_hold
