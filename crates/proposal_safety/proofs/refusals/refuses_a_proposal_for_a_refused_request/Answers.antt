use Rattle.proposal_safety.proofs.Refused.{no_proposal_for_refused}
use Rattle.proposal_safety.proofs.refusals.refuses_a_proposal_for_a_refused_request.Goals as goal

pub returns : goal.returns
returns c = no_proposal_for_refused
