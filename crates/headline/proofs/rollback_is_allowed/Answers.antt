use Rattle.headline.proofs.Rollback.{rollback_is_allowed}
use Rattle.headline.proofs.rollback_is_allowed.Goals as goal

pub returns : goal.returns
returns g c kind = rollback_is_allowed _
