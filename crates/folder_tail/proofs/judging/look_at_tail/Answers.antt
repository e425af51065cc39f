use Rattle.folder_tail.proofs.Looking.{unread, read_then, cause_read, cause_both}
use Rattle.folder_tail.proofs.judging.look_at_tail.Goals as goal

pub returns-in-Ok-clause-looks : goal.returns-in-Ok-clause-looks
returns-in-Ok-clause-looks g c = read_then _ _ _ c.in-Ok.found c.found_tail.result c.in-Ok.ensures.told c.found_tail.ensures.told

pub returns-in-Ok-clause-cause : goal.returns-in-Ok-clause-cause
returns-in-Ok-clause-cause g c = cause_both _ _ _ c.in-Ok.found c.found_tail.result c.in-Ok.ensures.cause c.found_tail.ensures.cause

pub returns-in-Err-clause-looks : goal.returns-in-Err-clause-looks
returns-in-Err-clause-looks g c = unread _ _ c.in-Err.fault _ c.in-Err.ensures.told

pub returns-in-Err-clause-cause : goal.returns-in-Err-clause-cause
returns-in-Err-clause-cause g c = cause_read _ _ c.in-Err.fault _ c.load_fault.ensures c.in-Err.ensures.cause
