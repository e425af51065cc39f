use Rattle.segment_store.proofs.Restarting.{load_starts as law}
use Rattle.segment_store.proofs.starts.load_starts.Goals as goal

pub returns : goal.returns
returns c = law
