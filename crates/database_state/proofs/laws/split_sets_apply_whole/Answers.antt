use Rattle.database_state.proofs.SplitLaw.{split_is_set}
use Rattle.database_state.proofs.laws.split_sets_apply_whole.Goals as goal

pub returns : goal.returns
returns c = split_is_set
