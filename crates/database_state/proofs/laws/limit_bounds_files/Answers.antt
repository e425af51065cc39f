use Rattle.database_state.proofs.LimitLaw.{limit_bounds}
use Rattle.database_state.proofs.laws.limit_bounds_files.Goals as goal

pub returns : goal.returns
returns c = limit_bounds
