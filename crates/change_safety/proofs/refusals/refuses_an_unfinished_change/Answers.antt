use Rattle.change_safety.proofs.Refused.{no_unfinished_change}
use Rattle.change_safety.proofs.refusals.refuses_an_unfinished_change.Goals as goal

pub returns : goal.returns
returns c = no_unfinished_change
