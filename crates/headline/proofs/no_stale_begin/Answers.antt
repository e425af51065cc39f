use Rattle.headline.proofs.Late.{no_stale_begin}
use Rattle.headline.proofs.no_stale_begin.Goals as goal

pub returns : goal.returns
returns g c kind = no_stale_begin _
