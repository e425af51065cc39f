use Rattle.change_safety.proofs.Refused.{no_fewer_changes}
use Rattle.change_safety.proofs.refusals.refuses_fewer_changes.Goals as goal

pub returns : goal.returns
returns c = no_fewer_changes
