use Rattle.store_format.proofs.metadata_reads_back.Goals as goal
use Rattle.store_format.proofs.Written.{metadata_reads_back}

pub returns : goal.returns
returns c = metadata_reads_back
