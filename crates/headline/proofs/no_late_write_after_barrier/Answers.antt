use Rattle.headline.proofs.Late.{no_late_write_after_barrier}
use Rattle.headline.proofs.no_late_write_after_barrier.Goals as goal

pub returns : goal.returns
returns g c kind = no_late_write_after_barrier _
