use Rattle.headline.proofs.Late.{no_write_lost_later}
use Rattle.headline.proofs.no_write_lost_later.Goals as goal

pub returns : goal.returns
returns g c kind = no_write_lost_later _
