use Rattle.change_safety.proofs.Refused.{no_hidden_database}
use Rattle.change_safety.proofs.refusals.refuses_a_hidden_database.Goals as goal

pub returns : goal.returns
returns c = no_hidden_database
