use Rattle.headline.proofs.Refused.{no_refused_write}
use Rattle.headline.proofs.no_refused_write.Goals as goal

pub returns : goal.returns
returns g c kind = no_refused_write _
