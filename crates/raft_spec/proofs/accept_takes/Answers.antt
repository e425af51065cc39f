use Rattle.raft_spec.proofs.accept_takes.Goals as goal
use Rattle.raft_spec.proofs.Meanings.{accept_takes_holds}

pub returns : goal.returns
returns c = accept_takes_holds
