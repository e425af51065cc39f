use Rattle.store_laws.proofs.append.Goals as goal
use Rattle.store_laws.proofs.AppendLaw.{append_holds}

pub returns : goal.returns
returns c = append_holds
