use Rattle.reply_safety.proofs.Refused.{no_other_reading}
use Rattle.reply_safety.proofs.refusals.refuses_another_reading.Goals as goal

pub returns : goal.returns
returns g c kind = no_other_reading _
