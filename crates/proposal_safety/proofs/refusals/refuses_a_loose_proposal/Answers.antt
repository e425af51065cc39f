use Rattle.proposal_safety.proofs.Refused.{no_loose_proposal}
use Rattle.proposal_safety.proofs.refusals.refuses_a_loose_proposal.Goals as goal

pub returns : goal.returns
returns c = no_loose_proposal
