use Rattle.headline.proofs.Refused.{no_stale_read_later}
use Rattle.headline.proofs.no_stale_read_later.Goals as goal

pub returns : goal.returns
returns g c kind = no_stale_read_later _
