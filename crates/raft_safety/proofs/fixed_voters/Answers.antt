use Rattle.raft_safety.proofs.fixed_voters.Goals as goal
use Rattle.raft_safety.proofs.Tolds.{fixed_told_holds}
use Rattle.raft_safety.proofs.Fixeds.{fixed_servers_holds, fixed_proposals_holds}

pub returns-clause-servers : goal.returns-clause-servers
returns-clause-servers c = fixed_servers_holds

pub returns-clause-proposals : goal.returns-clause-proposals
returns-clause-proposals c = fixed_proposals_holds

pub returns-clause-told : goal.returns-clause-told
returns-clause-told c = fixed_told_holds
