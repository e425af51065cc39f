use Rattle.change_safety.proofs.Refused.{no_second_opening}
use Rattle.change_safety.proofs.refusals.refuses_a_second_opening.Goals as goal

pub returns : goal.returns
returns c = no_second_opening
