use Rattle.session_safety.proofs.Staying.{requests_stay, transactions_stay}
use Rattle.session_safety.proofs.transactions_stay.Goals as goal

pub returns-clause-requests : goal.returns-clause-requests
returns-clause-requests c = requests_stay

pub returns-clause-events : goal.returns-clause-events
returns-clause-events c = transactions_stay
