use Rattle.client_view_safety.proofs.Refused.{no_other_database}
use Rattle.client_view_safety.proofs.refusals.refuses_another_database.Goals as goal

pub returns : goal.returns
returns c = no_other_database
