use Rattle.headline.proofs.Late.{no_late_write}
use Rattle.headline.proofs.no_late_write.Goals as goal

pub returns : goal.returns
returns g c kind = no_late_write _
