use Rattle.reply_safety.proofs.Refused.{no_other_rows}
use Rattle.reply_safety.proofs.refusals.refuses_other_rows.Goals as goal

pub returns : goal.returns
returns g c kind = no_other_rows _
