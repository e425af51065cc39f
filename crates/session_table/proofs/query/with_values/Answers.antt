use Rattle.std.proofs.Common.{◌+◌, refl}
use Rattle.wire_rows.specs.Answering.{held}
use Rattle.wire_rows.proofs.Lengths.{sum_done}
use Rattle.session_table.specs.StatementSizes.{values_size}
use Rattle.session_table.proofs.query.with_values.Goals as goal

pub returns : goal.returns
returns c = sum_done values_size c.args.values.now c.loop-value.value-index c.loop-value.size (held (c.args.size + values_size c.args.values.now)) refl c.loop-value-test.false c.loop-value.invariant.1 c.loop-value.invariant.0
