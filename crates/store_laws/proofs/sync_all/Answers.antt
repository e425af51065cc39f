use Rattle.store_laws.proofs.sync_all.Goals as goal
use Rattle.store_laws.proofs.Tells.{sync_all_names}

pub returns : goal.returns
returns c = sync_all_names
