use Rattle.order_safety.proofs.Order.{pending_comes_first_holds, answered_comes_first_holds}
use Rattle.order_safety.proofs.pending_comes_first.Goals as goal

pub returns-clause-pending : goal.returns-clause-pending
returns-clause-pending g c = λ kind. pending_comes_first_holds _ kind

pub returns-clause-answered : goal.returns-clause-answered
returns-clause-answered g c = λ kind. answered_comes_first_holds _ kind
