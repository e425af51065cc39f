use Rattle.proposal_safety.proofs.Refused.{no_change_for_query}
use Rattle.proposal_safety.proofs.refusals.refuses_a_change_for_a_query.Goals as goal

pub returns : goal.returns
returns c = no_change_for_query
