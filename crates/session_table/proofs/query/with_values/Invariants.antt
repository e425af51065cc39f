use Rattle.std.proofs.Common.{◌≡◌, ◌+◌, ◌<◌, ◌^◌, drop}
use Rattle.wire_rows.specs.Answering.{held}
use Rattle.session_table.specs.StatementSizes.{values_size}
use Rattle.session_table.proofs.query.with_values.Given as goal

abbrev pub invariant-loop-value : goal.invariant-loop-value
invariant-loop-value l = (held (l.size + values_size (drop l.value-index l.values)) ≡ held (l.initial.size + values_size l.values)) × (l.size < 2 ^ 64)
