use Rattle.append_safety.proofs.Refused.{no_new_before_old}
use Rattle.append_safety.proofs.refusals.refuses_a_new_entry_before_an_old_one.Goals as goal

pub returns : goal.returns
returns c = no_new_before_old
