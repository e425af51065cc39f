use Rattle.store_laws.proofs.metadata_written.Goals as goal
use Rattle.store_laws.proofs.Written.{meta_written}

pub returns : goal.returns
returns c = meta_written
