use Rattle.headline.proofs.Refused.{no_stale_dump}
use Rattle.headline.proofs.no_stale_dump.Goals as goal

pub returns : goal.returns
returns g c kind = no_stale_dump _
