use Rattle.headline.proofs.Refused.{no_answer_after_close}
use Rattle.headline.proofs.no_answer_after_close.Goals as goal

pub returns : goal.returns
returns g c kind = no_answer_after_close _
