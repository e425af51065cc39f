use Rattle.applied_state.proofs.Following.{nothing_applied}
use Rattle.applied_state.proofs.applied.Applied.new.Goals as goal

pub returns-clause-applied : goal.returns-clause-applied
returns-clause-applied c = nothing_applied c.args.servers c.new.result c.new.ensures
