use Rattle.store_laws.proofs.load_seen.Goals as goal
use Rattle.store_laws.proofs.WholeLoads.{whole_load_seen}

pub returns : goal.returns
returns c = whole_load_seen
