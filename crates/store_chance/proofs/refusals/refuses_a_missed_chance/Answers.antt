use Rattle.store_chance.proofs.Refused.{no_missed_chance}
use Rattle.store_chance.proofs.refusals.refuses_a_missed_chance.Goals as goal

pub returns : goal.returns
returns c = no_missed_chance
