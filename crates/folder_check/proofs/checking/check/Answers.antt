use Rattle.folder_check.proofs.Reported.{printed, refused, written, unwritten, printed_disk, refused_disk, refused_sink}
use Rattle.folder_check.proofs.checking.check.Goals as goal

pub returns-in-Ok-clause-checks : goal.returns-in-Ok-clause-checks
returns-in-Ok-clause-checks g c = printed _ _ _ _ c.in-Ok.text c.as_str.result.now c.print.result c.as_str.ensures.value c.in-Ok.ensures.told c.print.ensures.prints

pub returns-in-Ok-clause-stays : goal.returns-in-Ok-clause-stays
returns-in-Ok-clause-stays g c = written c.print.result _ _ c.as_str.result.now c.args.sink.now c.print.new.sink c.print.ensures.prints

pub returns-in-Ok-clause-disk : goal.returns-in-Ok-clause-disk
returns-in-Ok-clause-disk g c = printed_disk _ _ c.in-Ok.text _ _ c.as_str.result.now c.print.result c.in-Ok.ensures.cause c.print.ensures.prints

pub returns-in-Err-clause-checks : goal.returns-in-Err-clause-checks
returns-in-Err-clause-checks g c = refused _ _ _ _ c.in-Err.early c.in-Err.ensures.told c.in-Err.ensures.early

pub returns-in-Err-clause-stays : goal.returns-in-Err-clause-stays
returns-in-Err-clause-stays g c = unwritten c.in-Err.early c.args.sink.now c.in-Err.ensures.early

pub returns-in-Err-clause-disk : goal.returns-in-Err-clause-disk
returns-in-Err-clause-disk g c = refused_disk _ _ c.in-Err.early c.in-Err.ensures.cause

pub returns-in-Err-clause-sink : goal.returns-in-Err-clause-sink
returns-in-Err-clause-sink g c = refused_sink _ c.in-Err.early c.in-Err.ensures.early
