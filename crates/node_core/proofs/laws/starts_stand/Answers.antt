use Rattle.node_core.proofs.Starts.{begun_stands}
use Rattle.node_core.proofs.laws.starts_stand.Goals as goal

pub returns : goal.returns
returns c = begun_stands c.starts_tell_voters.ensures
