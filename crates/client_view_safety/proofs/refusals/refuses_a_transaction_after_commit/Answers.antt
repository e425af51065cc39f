use Rattle.client_view_safety.proofs.Refused.{no_open_after_commit}
use Rattle.client_view_safety.proofs.refusals.refuses_a_transaction_after_commit.Goals as goal

pub returns : goal.returns
returns c = no_open_after_commit
