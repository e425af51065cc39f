use Rattle.session_spec.proofs.Keeping.{laters_keep_hold}
use Rattle.session_spec.proofs.laters_keep.Goals as goal

pub returns : goal.returns
returns c = laters_keep_hold
