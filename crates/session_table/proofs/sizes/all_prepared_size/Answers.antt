use Rattle.std.proofs.Common.{refl}
use Rattle.wire_rows.specs.Answering.{held}
use Rattle.wire_rows.proofs.Lengths.{sum_done}
use Rattle.session_table.specs.SessionSizes.{all_prepared_size}
use Rattle.session_table.proofs.sizes.all_prepared_size.Goals as goal

pub returns : goal.returns
returns c = sum_done all_prepared_size c.args.statements.now c.loop-statement.statement-index c.loop-statement.size (held (all_prepared_size c.args.statements.now)) refl c.loop-statement-test.false c.loop-statement.invariant.1 c.loop-statement.invariant.0
