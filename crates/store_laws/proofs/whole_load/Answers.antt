use Rattle.store_laws.proofs.whole_load.Goals as goal
use Rattle.store_laws.proofs.WholeLoads.{whole_load_holds}

pub returns : goal.returns
returns c = whole_load_holds
