use Rattle.client_view_safety.proofs.Refused.{no_statement_after_finalize}
use Rattle.client_view_safety.proofs.refusals.refuses_a_statement_after_finalize.Goals as goal

pub returns : goal.returns
returns c = no_statement_after_finalize
