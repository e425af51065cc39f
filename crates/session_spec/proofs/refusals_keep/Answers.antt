use Rattle.session_spec.proofs.Keeping.{refusals_keep_hold}
use Rattle.session_spec.proofs.refusals_keep.Goals as goal

pub returns : goal.returns
returns c = refusals_keep_hold
