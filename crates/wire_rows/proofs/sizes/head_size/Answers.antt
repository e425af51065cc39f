use Rattle.std.proofs.Common.{length, refl}
use Rattle.wire_rows.specs.Spelling.{names_bytes, head_bytes}
use Rattle.wire_rows.specs.Answering.{held}
use Rattle.wire_rows.proofs.Lengths.{sum_done}
use Rattle.wire_rows.proofs.sizes.head_size.Goals as goal

pub returns : goal.returns
returns c = sum_done (λ ns. length (names_bytes ns)) c.args.columns.now c.loop-name.name-index c.loop-name.size (held (length (head_bytes c.args.columns.now))) refl c.loop-name-test.false c.loop-name.invariant.1 c.loop-name.invariant.0
