use Rattle.headline.proofs.Refused.{no_other_reply}
use Rattle.headline.proofs.no_other_reply.Goals as goal

pub returns : goal.returns
returns g c kind = no_other_reply _
