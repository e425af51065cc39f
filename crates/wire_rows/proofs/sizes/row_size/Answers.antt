use Rattle.std.proofs.Common.{length, refl}
use Rattle.wire_words.specs.Values.{values, row}
use Rattle.wire_rows.specs.Answering.{held}
use Rattle.wire_rows.proofs.Lengths.{sum_done}
use Rattle.wire_rows.proofs.sizes.row_size.Goals as goal

pub returns : goal.returns
returns c = sum_done (λ vs. length (values vs)) c.args.contents.now c.loop-content.content-index c.loop-content.size (held (length (row c.args.contents.now))) refl c.loop-content-test.false c.loop-content.invariant.1 c.loop-content.invariant.0
