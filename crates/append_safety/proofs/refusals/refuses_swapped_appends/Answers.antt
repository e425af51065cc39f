use Rattle.append_safety.proofs.Refused.{no_swapped_appends}
use Rattle.append_safety.proofs.refusals.refuses_swapped_appends.Goals as goal

pub returns : goal.returns
returns c = no_swapped_appends
