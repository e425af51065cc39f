use Rattle.raft_safety.proofs.Midways.{applied_kept_hold}
use Rattle.raft_safety.proofs.applied_kept.Goals as goal

pub returns : goal.returns
returns c = applied_kept_hold
