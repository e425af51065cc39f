use Rattle.store_chance.proofs.Refused.{no_empty_file}
use Rattle.store_chance.proofs.refusals.refuses_an_empty_file.Goals as goal

pub returns : goal.returns
returns c = no_empty_file
