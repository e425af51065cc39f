use Rattle.headline.proofs.Refused.{no_lost_write}
use Rattle.headline.proofs.no_lost_write.Goals as goal

pub returns : goal.returns
returns g c kind = no_lost_write _
