use Rattle.reply_safety.proofs.Refused.{no_other_count}
use Rattle.reply_safety.proofs.refusals.refuses_another_count.Goals as goal

pub returns : goal.returns
returns g c kind = no_other_count _
