use Rattle.append_safety.proofs.Refused.{no_other_entry_below}
use Rattle.append_safety.proofs.refusals.refuses_another_entry_below.Goals as goal

pub returns : goal.returns
returns c = no_other_entry_below
