use Rattle.session_spec.proofs.Seeing.{written_is_seen_holds}
use Rattle.session_spec.proofs.written_is_seen.Goals as goal

pub returns : goal.returns
returns c = written_is_seen_holds
