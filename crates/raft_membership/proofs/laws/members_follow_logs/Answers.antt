use Rattle.raft_membership.proofs.WholeLogs.{others_stay, changes_are_within}
use Rattle.raft_membership.proofs.laws.members_follow_logs.Goals as goal

pub returns-clause-others : goal.returns-clause-others
returns-clause-others c = others_stay

pub returns-clause-within : goal.returns-clause-within
returns-clause-within c = changes_are_within
