use Rattle.reply_safety.proofs.Refused.{silent, no_old_reader}
use Rattle.reply_safety.proofs.refusals.refuses_an_old_reader.Goals as goal

pub returns : goal.returns
returns g c kind = no_old_reader silent
