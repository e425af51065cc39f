use Rattle.database_state.proofs.Contents.{act_shown, files_shown}
use Rattle.database_state.proofs.laws.machines_show_files.Goals as goal

pub returns-clause-act : goal.returns-clause-act
returns-clause-act c = act_shown

pub returns-clause-fold : goal.returns-clause-fold
returns-clause-fold c = files_shown
