use Rattle.folder_tail.proofs.Looking.{next_seen, unseen, cause_pass, cause_end}
use Rattle.folder_tail.proofs.judging.next_of.Goals as goal

pub returns-in-Ok-clause-told : goal.returns-in-Ok-clause-told
returns-in-Ok-clause-told g c = next_seen _ _ c.in-Ok.kept c.next_index.result c.in-Ok.ensures.looks c.next_index.ensures.next

pub returns-in-Ok-clause-cause : goal.returns-in-Ok-clause-cause
returns-in-Ok-clause-cause g c = cause_end _ _ c.in-Ok.kept c.next_index.result c.in-Ok.ensures.cause c.next_index.ensures.memory

pub returns-in-Err-clause-told : goal.returns-in-Err-clause-told
returns-in-Err-clause-told g c = unseen _ _ c.in-Err.fault _ _ c.in-Err.ensures.looks

pub returns-in-Err-clause-cause : goal.returns-in-Err-clause-cause
returns-in-Err-clause-cause g c = cause_pass _ _ c.in-Err.fault c.in-Err.ensures.cause
