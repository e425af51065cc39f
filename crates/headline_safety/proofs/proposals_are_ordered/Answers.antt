use Rattle.headline_safety.proofs.Order.{proposals_keep_order_hold}
use Rattle.headline_safety.proofs.proposals_are_ordered.Goals as goal

pub returns : goal.returns
returns g c = λ kind. proposals_keep_order_hold _ kind
