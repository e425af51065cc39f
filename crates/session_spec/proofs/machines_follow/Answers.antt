use Rattle.session_spec.proofs.Following.{machines_follow_hold}
use Rattle.session_spec.proofs.machines_follow.Goals as goal

pub returns : goal.returns
returns c = machines_follow_hold
