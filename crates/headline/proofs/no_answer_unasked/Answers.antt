use Rattle.headline.proofs.Refused.{no_answer_unasked}
use Rattle.headline.proofs.no_answer_unasked.Goals as goal

pub returns : goal.returns
returns g c kind = no_answer_unasked _
