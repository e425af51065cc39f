use Rattle.dq_base.proofs.ChangeFaults.{change_is_sound}
use Rattle.dq_base.proofs.changes.change_has_no_fault.Goals as goal

pub returns : goal.returns
returns c = change_is_sound
