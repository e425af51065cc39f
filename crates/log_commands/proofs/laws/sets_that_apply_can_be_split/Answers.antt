use Rattle.log_commands.proofs.SplitFits.{applied_can_split}
use Rattle.log_commands.proofs.laws.sets_that_apply_can_be_split.Goals as goal

pub returns : goal.returns
returns c = applied_can_split
