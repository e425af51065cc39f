use Rattle.store_chance.proofs.Refused.{no_strange_batch}
use Rattle.store_chance.proofs.refusals.refuses_a_strange_batch.Goals as goal

pub returns : goal.returns
returns c = no_strange_batch
