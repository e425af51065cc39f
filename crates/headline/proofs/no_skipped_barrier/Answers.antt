use Rattle.headline.proofs.Refused.{no_skipped_barrier}
use Rattle.headline.proofs.no_skipped_barrier.Goals as goal

pub returns : goal.returns
returns g c kind = no_skipped_barrier _
