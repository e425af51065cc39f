use Rattle.node_spec.proofs.MayPropose.{requests_may_propose_hold, laters_may_propose_hold}
use Rattle.node_spec.proofs.proposals_fit.Goals as goal

pub returns-clause-requests : goal.returns-clause-requests
returns-clause-requests c = requests_may_propose_hold

pub returns-clause-later : goal.returns-clause-later
returns-clause-later c = laters_may_propose_hold
