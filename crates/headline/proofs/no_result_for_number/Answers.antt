use Rattle.headline.proofs.Refused.{no_result_for_number}
use Rattle.headline.proofs.no_result_for_number.Goals as goal

pub returns : goal.returns
returns g c kind = no_result_for_number _
