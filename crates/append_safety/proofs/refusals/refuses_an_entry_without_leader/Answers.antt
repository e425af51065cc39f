use Rattle.append_safety.proofs.Refused.{no_entry_without_leader}
use Rattle.append_safety.proofs.refusals.refuses_an_entry_without_leader.Goals as goal

pub returns : goal.returns
returns c = no_entry_without_leader
