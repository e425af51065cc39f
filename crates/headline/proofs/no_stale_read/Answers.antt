use Rattle.headline.proofs.Refused.{no_stale_read}
use Rattle.headline.proofs.no_stale_read.Goals as goal

pub returns : goal.returns
returns g c kind = no_stale_read _
