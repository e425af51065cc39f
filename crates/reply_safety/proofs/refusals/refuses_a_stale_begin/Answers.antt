use Rattle.reply_safety.proofs.Refused.{silent, no_stale_begin}
use Rattle.reply_safety.proofs.refusals.refuses_a_stale_begin.Goals as goal

pub returns : goal.returns
returns g c kind = no_stale_begin silent
