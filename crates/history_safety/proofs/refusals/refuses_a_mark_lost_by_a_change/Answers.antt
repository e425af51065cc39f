use Rattle.history_safety.proofs.Refused.{no_mark_lost_by_change}
use Rattle.history_safety.proofs.refusals.refuses_a_mark_lost_by_a_change.Goals as goal

pub returns : goal.returns
returns g c kind = no_mark_lost_by_change _
