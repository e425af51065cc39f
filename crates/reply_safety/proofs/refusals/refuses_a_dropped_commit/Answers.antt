use Rattle.reply_safety.proofs.Refused.{silent, no_dropped_commit}
use Rattle.reply_safety.proofs.refusals.refuses_a_dropped_commit.Goals as goal

pub returns : goal.returns
returns g c kind = no_dropped_commit silent
