use Rattle.store_chance.proofs.Refused.{no_last_half}
use Rattle.store_chance.proofs.refusals.refuses_the_last_half.Goals as goal

pub returns : goal.returns
returns c = no_last_half
