use Rattle.wire_words.proofs.Whole.{values_more}
use Rattle.wire_words.proofs.writer.Writer.values.Goals as goal

pub loop-content-preserved : goal.loop-content-preserved
loop-content-preserved c =
    rw (c.in_default.ensures, c.loop-content.invariant) (values_more c.args.self.now c.args.contents.now c.loop-content.content-index c.content-item.result c.loop-content-test.true c.content-item.is)
