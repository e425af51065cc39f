use Rattle.headline.proofs.Late.{no_late_write_of_down_node}
use Rattle.headline.proofs.no_late_write_of_down_node.Goals as goal

pub returns : goal.returns
returns g c kind = no_late_write_of_down_node _
