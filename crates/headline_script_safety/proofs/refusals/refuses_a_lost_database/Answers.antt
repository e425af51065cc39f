use Rattle.headline_script_safety.proofs.Refused.{no_lost_database}
use Rattle.headline_script_safety.proofs.refusals.refuses_a_lost_database.Goals as goal

pub returns : goal.returns
returns g c kind = no_lost_database _ kind
