use Rattle.headline.proofs.Transactions.{no_lost_update}
use Rattle.headline.proofs.no_lost_update.Goals as goal

pub returns : goal.returns
returns g c kind = no_lost_update _
