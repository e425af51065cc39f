use Rattle.log_commands.proofs.CommandLaws.{command_found, command_read}
use Rattle.log_commands.proofs.laws.commands_read_back.Goals as goal

pub returns-clause-spelled : goal.returns-clause-spelled
returns-clause-spelled c = command_found

pub returns-clause-read : goal.returns-clause-read
returns-clause-read c = command_read
