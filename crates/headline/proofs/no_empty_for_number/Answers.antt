use Rattle.headline.proofs.Refused.{no_empty_for_number}
use Rattle.headline.proofs.no_empty_for_number.Goals as goal

pub returns : goal.returns
returns g c kind = no_empty_for_number _
