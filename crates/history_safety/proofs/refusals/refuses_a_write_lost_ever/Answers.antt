use Rattle.history_safety.proofs.Refused.{no_write_lost_ever}
use Rattle.history_safety.proofs.refusals.refuses_a_write_lost_ever.Goals as goal

pub returns : goal.returns
returns g c kind = no_write_lost_ever _
