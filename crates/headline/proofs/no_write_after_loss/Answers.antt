use Rattle.headline.proofs.Transactions.{no_write_after_loss}
use Rattle.headline.proofs.no_write_after_loss.Goals as goal

pub returns : goal.returns
returns g c kind = no_write_after_loss _
