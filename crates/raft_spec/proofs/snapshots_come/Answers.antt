use Rattle.raft_spec.proofs.snapshots_come.Goals as goal
use Rattle.raft_spec.proofs.SnapshotEnds.{snapshots_come_holds}

pub returns : goal.returns
returns c = snapshots_come_holds
