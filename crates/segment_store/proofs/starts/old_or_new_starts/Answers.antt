use Rattle.segment_store.proofs.Restarting.{old_or_new_starts as law}
use Rattle.segment_store.proofs.starts.old_or_new_starts.Goals as goal

pub returns : goal.returns
returns c = law
