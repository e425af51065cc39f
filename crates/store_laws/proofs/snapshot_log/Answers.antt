use Rattle.store_laws.proofs.snapshot_log.Goals as goal
use Rattle.store_laws.proofs.SnapshotLaw.{snapshot_log_holds}

pub returns : goal.returns
returns c = snapshot_log_holds
