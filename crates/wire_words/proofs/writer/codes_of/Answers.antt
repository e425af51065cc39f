use Rattle.wire_words.proofs.Whole.{codes_more}
use Rattle.wire_words.proofs.writer.codes_of.Goals as goal

pub loop-content-preserved : goal.loop-content-preserved
loop-content-preserved c =
    rw (c.in_ok-push.ensures.items, c.code.ensures.code, c.loop-content.invariant) (codes_more c.args.count.now c.args.contents.now c.loop-content.content-index c.content-item.result c.loop-content-test.true c.content-item.is)
