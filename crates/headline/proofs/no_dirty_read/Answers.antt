use Rattle.headline.proofs.Late.{no_dirty_read}
use Rattle.headline.proofs.no_dirty_read.Goals as goal

pub returns : goal.returns
returns g c kind = no_dirty_read _
