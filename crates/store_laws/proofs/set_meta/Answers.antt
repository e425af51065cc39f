use Rattle.store_laws.proofs.set_meta.Goals as goal
use Rattle.store_laws.proofs.MetaLaw.{set_meta_holds}

pub returns : goal.returns
returns c = set_meta_holds
