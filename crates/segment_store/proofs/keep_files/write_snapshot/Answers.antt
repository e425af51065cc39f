use Rattle.std.proofs.Common.{true, false}
use Rattle.segment_store.proofs.KeepRuns.{file_ran}
use Rattle.segment_store.proofs.CountedCalls.{counts_as, file_is}
use Rattle.segment_store.proofs.keep_files.write_snapshot.Goals as goal

pub returns-then-file-clause-ran : goal.returns-then-file-clause-ran
returns-then-file-clause-ran g c = file_ran c.args.file.now true c.as_str-name.result.now c.as_slice-head.result.now g.D.Disk.tells _ _ c.write_anew.result c.if-file.true c.as_str-name.ensures.value c.as_slice-head.ensures.value c.write_anew.ensures.ran

pub returns-else-file-clause-ran : goal.returns-else-file-clause-ran
returns-else-file-clause-ran g c = file_ran c.args.file.now false c.as_str-name.result.now c.as_slice-head.result.now g.D.Disk.tells _ _ c.write_new.result c.if-file.false c.as_str-name.ensures.value c.as_slice-head.ensures.value c.write_new.ensures.ran

pub returns-then-file-clause-count : goal.returns-then-file-clause-count
returns-then-file-clause-count g c = counts_as 4 _ _ _ c.write_anew.result (file_is c.args.file.now.is_there true c.if-file.true) c.write_anew.ensures.count

pub returns-else-file-clause-count : goal.returns-else-file-clause-count
returns-else-file-clause-count g c = counts_as 3 _ _ _ c.write_new.result (file_is c.args.file.now.is_there false c.if-file.false) c.write_new.ensures.count
