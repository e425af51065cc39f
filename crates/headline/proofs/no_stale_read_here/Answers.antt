use Rattle.headline.proofs.Refused.{no_stale_read_here}
use Rattle.headline.proofs.no_stale_read_here.Goals as goal

pub returns : goal.returns
returns g c kind = no_stale_read_here _
