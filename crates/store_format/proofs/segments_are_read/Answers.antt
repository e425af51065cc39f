use Rattle.store_format.proofs.Segments.{segments_are_read}
use Rattle.store_format.proofs.segments_are_read.Goals as goal

pub returns : goal.returns
returns c = segments_are_read
