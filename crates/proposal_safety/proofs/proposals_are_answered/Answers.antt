use Rattle.proposal_safety.proofs.Pending.{proposals_are_answered_hold, changes_are_answered_hold}
use Rattle.proposal_safety.proofs.proposals_are_answered.Goals as goal

pub returns-clause-pending : goal.returns-clause-pending
returns-clause-pending g c kind = proposals_are_answered_hold _ kind

pub returns-clause-requests : goal.returns-clause-requests
returns-clause-requests g c kind = changes_are_answered_hold _ kind
