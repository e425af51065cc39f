use Rattle.node_spec.proofs.Voters.{fixed_tells_hold, fixed_counts_hold, members_known_hold}
use Rattle.node_spec.proofs.voters_are_told.Goals as goal

pub returns-clause-tells : goal.returns-clause-tells
returns-clause-tells c = fixed_tells_hold

pub returns-clause-counts : goal.returns-clause-counts
returns-clause-counts c = fixed_counts_hold

pub returns-clause-members : goal.returns-clause-members
returns-clause-members c = members_known_hold
