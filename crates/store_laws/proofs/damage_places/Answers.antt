use Rattle.store_laws.proofs.damage_places.Goals as goal
use Rattle.store_laws.proofs.Damages.{damage_places}

pub returns : goal.returns
returns c = damage_places
