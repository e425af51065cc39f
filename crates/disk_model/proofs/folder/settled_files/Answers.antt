use Rattle.std.proofs.Common.{arith}
use Rattle.disk_model.proofs.Standing.{settled_next}
use Rattle.disk_model.proofs.folder.settled_files.Goals as goal

pub loop-file-preserved : goal.loop-file-preserved
loop-file-preserved c =
    settled_next c.args.files.now c.loop-file.copies.items c.push.new.self.items c.loop-file.file-index c.file-item.result c.in_ok-settled.field-0 c.loop-file.invariant (omega arith) c.file-item.is c.in_ok-settled.ensures c.in_ok-push.ensures.items
