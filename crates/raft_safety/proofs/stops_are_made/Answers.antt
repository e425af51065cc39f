use Rattle.raft_safety.proofs.stops_are_made.Goals as goal
use Rattle.raft_safety.proofs.Examples.{stops_keep_holds, leads_midway_holds}

pub returns-clause-kept : goal.returns-clause-kept
returns-clause-kept c = stops_keep_holds

pub returns-clause-midway : goal.returns-clause-midway
returns-clause-midway c = leads_midway_holds
