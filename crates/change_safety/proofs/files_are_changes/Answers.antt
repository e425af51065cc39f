use Rattle.change_safety.proofs.Changes.{changes_grow_holds, files_are_changes_holds, shown_are_files_holds}
use Rattle.change_safety.proofs.files_are_changes.Goals as goal

pub returns-clause-grow : goal.returns-clause-grow
returns-clause-grow c = changes_grow_holds

pub returns-clause-files : goal.returns-clause-files
returns-clause-files c = files_are_changes_holds

pub returns-clause-shown : goal.returns-clause-shown
returns-clause-shown c = shown_are_files_holds
