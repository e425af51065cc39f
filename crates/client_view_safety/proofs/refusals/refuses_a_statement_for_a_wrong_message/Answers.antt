use Rattle.client_view_safety.proofs.Refused.{no_statement_for_wrong_message}
use Rattle.client_view_safety.proofs.refusals.refuses_a_statement_for_a_wrong_message.Goals as goal

pub returns : goal.returns
returns c = no_statement_for_wrong_message
