use Rattle.session_safety.proofs.Replying.{requests_are_answered_hold, transactions_run_hold}
use Rattle.session_safety.proofs.requests_are_answered.Goals as goal

pub returns-clause-replies : goal.returns-clause-replies
returns-clause-replies g c = λ kind. requests_are_answered_hold (g.E.Engine.meaning kind) kind

pub returns-clause-transactions : goal.returns-clause-transactions
returns-clause-transactions g c = transactions_run_hold
