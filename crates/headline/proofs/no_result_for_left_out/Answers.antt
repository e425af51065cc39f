use Rattle.headline.proofs.Refused.{no_result_for_left_out}
use Rattle.headline.proofs.no_result_for_left_out.Goals as goal

pub returns : goal.returns
returns g c kind = no_result_for_left_out _
