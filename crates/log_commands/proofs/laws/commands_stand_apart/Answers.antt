use Rattle.log_commands.proofs.CommandLaws.{stand_apart, no_prefix}
use Rattle.log_commands.proofs.laws.commands_stand_apart.Goals as goal

pub returns-clause-same : goal.returns-clause-same
returns-clause-same c = stand_apart

pub returns-clause-prefix : goal.returns-clause-prefix
returns-clause-prefix c = no_prefix
