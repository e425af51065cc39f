use Rattle.client_view_safety.proofs.Refused.{no_other_statement}
use Rattle.client_view_safety.proofs.refusals.refuses_another_statement.Goals as goal

pub returns : goal.returns
returns c = no_other_statement
