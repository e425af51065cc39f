use Rattle.headline.proofs.Refused.{no_result_for_text}
use Rattle.headline.proofs.no_result_for_text.Goals as goal

pub returns : goal.returns
returns g c kind = no_result_for_text _
