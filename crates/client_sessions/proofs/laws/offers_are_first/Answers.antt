use Rattle.client_sessions.proofs.Offers.{next_is_first}
use Rattle.client_sessions.proofs.laws.offers_are_first.Goals as goal

pub returns : goal.returns
returns c = next_is_first
