use Rattle.headline_safety.proofs.Refused.{no_new_before_answered}
use Rattle.headline_safety.proofs.refusals.refuses_a_new_entry_before_an_answered_one.Goals as goal

pub returns : goal.returns
returns g c kind = no_new_before_answered _ kind
