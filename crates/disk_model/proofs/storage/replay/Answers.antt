use Rattle.std.proofs.Common.{arith}
use Rattle.disk_model.proofs.Replaying.{replayed_next}
use Rattle.disk_model.proofs.storage.replay.Goals as goal

pub loop-call-preserved : goal.loop-call-preserved
loop-call-preserved c =
    replayed_next c.args.calls.now c.loop-call.call-index c.call-item.result c.as_str.result.now c.args.folder.now c.loop-call.folder c.change_base.new.self c.loop-call.invariant (omega arith) c.call-item.is c.as_str.ensures.value c.in_ok-change_base.ensures.ok
