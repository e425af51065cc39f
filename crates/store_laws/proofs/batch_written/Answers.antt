use Rattle.store_laws.proofs.batch_written.Goals as goal
use Rattle.store_laws.proofs.Written.{batch_written}

pub returns : goal.returns
returns c = batch_written
