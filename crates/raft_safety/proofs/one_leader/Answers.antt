use Rattle.raft_safety.proofs.one_leader.Goals as goal
use Rattle.raft_safety.proofs.Laws.{one_leader_holds}
use Rattle.raft_safety.proofs.Between.{one_leader_then_holds, one_leader_midway_holds}

pub returns-clause-between : goal.returns-clause-between
returns-clause-between c = one_leader_holds

pub returns-clause-then : goal.returns-clause-then
returns-clause-then c = one_leader_then_holds

pub returns-clause-midway : goal.returns-clause-midway
returns-clause-midway c = one_leader_midway_holds
