use Rattle.std.proofs.Common.{◌∙◌, arith}
use Rattle.raft_log.proofs.Places.{range_more}
use Rattle.raft_log.proofs.queue.copied.Goals as goal

pub loop-place-preserved : goal.loop-place-preserved
loop-place-preserved c =
    c.in_ok-push.ensures.items ∙ range_more c.args.queue.now c.loop-place.copies.items c.args.from c.loop-place.place c.in_ok-copied.field-0 c.index-queue-place.result (let a = c.loop-place.auto.place in omega arith) (let w = c.requires.within in let t = c.loop-place-test.true in omega arith) c.loop-place.invariant (c.in_ok-copied.ensures ∙ c.index-queue-place.is)
