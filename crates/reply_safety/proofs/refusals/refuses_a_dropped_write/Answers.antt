use Rattle.reply_safety.proofs.Refused.{no_dropped_write}
use Rattle.reply_safety.proofs.refusals.refuses_a_dropped_write.Goals as goal

pub returns : goal.returns
returns g c kind = no_dropped_write _
