use Rattle.session_spec.proofs.Keeping.{notes_tell_hold}
use Rattle.session_spec.proofs.notes_tell.Goals as goal

pub returns : goal.returns
returns c = notes_tell_hold
