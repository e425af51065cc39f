use Rattle.raft_safety.proofs.cut_steps.Goals as goal
use Rattle.raft_safety.proofs.Cuts.{forgets_nothing_holds, cut_steps_hold}

pub returns-clause-nothing_lost : goal.returns-clause-nothing_lost
returns-clause-nothing_lost c = forgets_nothing_holds

pub returns-clause-same_steps : goal.returns-clause-same_steps
returns-clause-same_steps c = cut_steps_hold
