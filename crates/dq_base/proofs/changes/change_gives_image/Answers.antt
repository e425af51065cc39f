use Rattle.dq_base.proofs.ChangeLaw.{applied_change}
use Rattle.dq_base.proofs.changes.change_gives_image.Goals as goal

pub returns : goal.returns
returns c = applied_change
