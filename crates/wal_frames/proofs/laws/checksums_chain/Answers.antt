use Rattle.wal_frames.proofs.Sums.{checksum-append}
use Rattle.wal_frames.proofs.laws.checksums_chain.Goals as goal

pub returns : goal.returns
returns c = checksum-append
