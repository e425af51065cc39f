use Rattle.reply_safety.proofs.Refused.{silent, no_lost_update}
use Rattle.reply_safety.proofs.refusals.refuses_a_lost_update.Goals as goal

pub returns : goal.returns
returns g c kind = no_lost_update silent
