use Rattle.std.proofs.Common.{◌+◌, length, refl}
use Rattle.wire_rows.specs.Spelling.{rows_bytes}
use Rattle.wire_rows.specs.Answering.{held}
use Rattle.wire_rows.proofs.Lengths.{sum_done}
use Rattle.wire_rows.proofs.sizes.with_rows.Goals as goal

pub returns : goal.returns
returns c = sum_done (λ rs. length (rows_bytes rs)) c.args.rows.now c.loop-row.row-index c.loop-row.size (held (c.args.size + length (rows_bytes c.args.rows.now))) refl c.loop-row-test.false c.loop-row.invariant.1 c.loop-row.invariant.0
