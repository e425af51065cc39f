use Rattle.proposal_safety.proofs.Counting.{requests_propose_once_hold, laters_propose_once_hold, logs_grow_hold}
use Rattle.proposal_safety.proofs.requests_propose_once.Goals as goal

pub returns-clause-requests : goal.returns-clause-requests
returns-clause-requests c = requests_propose_once_hold

pub returns-clause-later : goal.returns-clause-later
returns-clause-later c = laters_propose_once_hold

pub returns-clause-grows : goal.returns-clause-grows
returns-clause-grows c = logs_grow_hold
