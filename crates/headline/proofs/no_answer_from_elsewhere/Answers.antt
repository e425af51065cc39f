use Rattle.headline.proofs.Refused.{no_answer_from_elsewhere}
use Rattle.headline.proofs.no_answer_from_elsewhere.Goals as goal

pub returns : goal.returns
returns g c kind = no_answer_from_elsewhere _
