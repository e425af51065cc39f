use Rattle.node_spec.proofs.Firsts.{first_stands_holds}
use Rattle.node_spec.proofs.first_nodes_stand.Goals as goal

pub returns : goal.returns
returns c = first_stands_holds
