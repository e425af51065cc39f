use Rattle.database_state.proofs.AsMap.{files_in_order, files_changed}
use Rattle.database_state.proofs.laws.commands_do_what_they_say.Goals as goal

pub returns-clause-in_order : goal.returns-clause-in_order
returns-clause-in_order c = files_in_order

pub returns-clause-does : goal.returns-clause-does
returns-clause-does c = files_changed
