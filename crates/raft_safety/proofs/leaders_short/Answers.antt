use Rattle.raft_safety.proofs.leaders_short.Goals as goal
use Rattle.raft_safety.proofs.Between.{leaders_short_holds, leaders_short_midway_holds}

pub returns-clause-between : goal.returns-clause-between
returns-clause-between c = leaders_short_holds

pub returns-clause-midway : goal.returns-clause-midway
returns-clause-midway c = leaders_short_midway_holds
