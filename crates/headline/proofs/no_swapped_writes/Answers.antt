use Rattle.headline.proofs.Late.{no_swapped_writes}
use Rattle.headline.proofs.no_swapped_writes.Goals as goal

pub returns : goal.returns
returns g c kind = no_swapped_writes _
