use Rattle.store_laws.proofs.remove_older.Goals as goal
use Rattle.store_laws.proofs.Olders.{remove_older_holds}

pub returns : goal.returns
returns c = remove_older_holds
