use Rattle.store_laws.proofs.load.Goals as goal
use Rattle.store_laws.proofs.Loads.{load_holds}

pub returns : goal.returns
returns c = load_holds
