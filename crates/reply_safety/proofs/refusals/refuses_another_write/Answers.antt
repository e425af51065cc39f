use Rattle.reply_safety.proofs.Refused.{no_other_write}
use Rattle.reply_safety.proofs.refusals.refuses_another_write.Goals as goal

pub returns : goal.returns
returns g c kind = no_other_write _
