use Rattle.proposal_safety.proofs.Refused.{no_refused_change}
use Rattle.proposal_safety.proofs.refusals.refuses_a_refused_change.Goals as goal

pub returns : goal.returns
returns c = no_refused_change
