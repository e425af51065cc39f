use Rattle.change_safety.proofs.Refused.{no_lost_change}
use Rattle.change_safety.proofs.refusals.refuses_a_lost_change.Goals as goal

pub returns : goal.returns
returns c = no_lost_change
