use Rattle.store_laws.proofs.set_meta_long.Goals as goal
use Rattle.store_laws.proofs.LongMeta.{set_meta_long_holds}

pub returns : goal.returns
returns c = set_meta_long_holds
