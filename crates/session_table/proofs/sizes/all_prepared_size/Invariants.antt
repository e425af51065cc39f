use Rattle.std.proofs.Common.{◌≡◌, ◌+◌, ◌<◌, ◌^◌, drop}
use Rattle.wire_rows.specs.Answering.{held}
use Rattle.session_table.specs.SessionSizes.{all_prepared_size}
use Rattle.session_table.proofs.sizes.all_prepared_size.Given as goal

abbrev pub invariant-loop-statement : goal.invariant-loop-statement
invariant-loop-statement l = (held (l.size + all_prepared_size (drop l.statement-index l.statements)) ≡ held (all_prepared_size l.statements)) × (l.size < 2 ^ 64)
