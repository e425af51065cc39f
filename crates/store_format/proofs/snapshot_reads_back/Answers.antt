use Rattle.store_format.proofs.snapshot_reads_back.Goals as goal
use Rattle.store_format.proofs.SnapshotWritten.{snapshot_reads_back}

pub returns : goal.returns
returns c = snapshot_reads_back
