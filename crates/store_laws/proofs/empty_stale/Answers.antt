use Rattle.store_laws.proofs.empty_stale.Goals as goal
use Rattle.store_laws.proofs.AppendLaw.{empty_stale_holds}

pub returns : goal.returns
returns c = empty_stale_holds
