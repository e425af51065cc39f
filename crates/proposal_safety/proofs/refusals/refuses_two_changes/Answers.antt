use Rattle.proposal_safety.proofs.Refused.{no_two_changes}
use Rattle.proposal_safety.proofs.refusals.refuses_two_changes.Goals as goal

pub returns : goal.returns
returns c = no_two_changes
