use Rattle.headline.proofs.Refused.{no_number_twice}
use Rattle.headline.proofs.no_number_twice.Goals as goal

pub returns : goal.returns
returns g c kind = no_number_twice _
