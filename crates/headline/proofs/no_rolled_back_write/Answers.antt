use Rattle.headline.proofs.Transactions.{no_rolled_back_write}
use Rattle.headline.proofs.no_rolled_back_write.Goals as goal

pub returns : goal.returns
returns g c kind = no_rolled_back_write _
