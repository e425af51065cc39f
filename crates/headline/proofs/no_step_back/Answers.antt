use Rattle.headline.proofs.Refused.{no_step_back}
use Rattle.headline.proofs.no_step_back.Goals as goal

pub returns : goal.returns
returns g c kind = no_step_back _
