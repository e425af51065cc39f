use Rattle.append_safety.proofs.Refused.{no_applied_replaced}
use Rattle.append_safety.proofs.refusals.refuses_a_replaced_entry.Goals as goal

pub returns : goal.returns
returns c = no_applied_replaced
