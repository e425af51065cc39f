use Rattle.store_format.proofs.batches_read_back.Goals as goal
use Rattle.store_format.proofs.BatchesWritten.{batches_read_back}

pub returns : goal.returns
returns c = batches_read_back
