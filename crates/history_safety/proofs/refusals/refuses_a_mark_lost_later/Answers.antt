use Rattle.history_safety.proofs.Refused.{no_mark_lost_later}
use Rattle.history_safety.proofs.refusals.refuses_a_mark_lost_later.Goals as goal

pub returns : goal.returns
returns g c kind = no_mark_lost_later _
