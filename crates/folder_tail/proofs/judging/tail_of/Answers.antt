use Rattle.folder_tail.proofs.Looking.{view_stop}
use Rattle.folder_tail.proofs.judging.tail_of.Goals as goal

pub returns-in-Err-clause-told : goal.returns-in-Err-clause-told
returns-in-Err-clause-told g c = view_stop _ _ _
