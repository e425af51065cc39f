use Rattle.headline.proofs.Refused.{no_loss_while_leading}
use Rattle.headline.proofs.no_loss_while_leading.Goals as goal

pub returns : goal.returns
returns g c kind = no_loss_while_leading _
