use Rattle.client_view_safety.proofs.Asking.{requests_ask_purposes_hold}
use Rattle.client_view_safety.proofs.requests_ask_purposes.Goals as goal

pub returns : goal.returns
returns c = requests_ask_purposes_hold
