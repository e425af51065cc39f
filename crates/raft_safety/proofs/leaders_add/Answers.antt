use Rattle.raft_safety.proofs.Origins.{leaders_add_hold}
use Rattle.raft_safety.proofs.leaders_add.Goals as goal

-- src/lib.rt:129:1
pub returns-clause-adds : goal.returns-clause-adds
returns-clause-adds c = leaders_add_hold
