use Rattle.database_state.proofs.StatedLaw.{files_short}
use Rattle.database_state.proofs.laws.files_are_no_longer_than_stated.Goals as goal

pub returns : goal.returns
returns c = files_short
