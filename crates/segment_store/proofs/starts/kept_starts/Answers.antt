use Rattle.segment_store.proofs.Restarting.{kept_starts as law}
use Rattle.segment_store.proofs.starts.kept_starts.Goals as goal

pub returns : goal.returns
returns c = law
