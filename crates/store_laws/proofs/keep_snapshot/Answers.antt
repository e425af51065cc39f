use Rattle.store_laws.proofs.keep_snapshot.Goals as goal
use Rattle.store_laws.proofs.KeepSnapshot.{keep_snapshot_holds}

pub returns : goal.returns
returns c = keep_snapshot_holds
