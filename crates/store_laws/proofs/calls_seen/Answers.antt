use Rattle.store_laws.proofs.calls_seen.Goals as goal
use Rattle.store_laws.proofs.Seen.{seen_holds}

pub returns : goal.returns
returns c = seen_holds
