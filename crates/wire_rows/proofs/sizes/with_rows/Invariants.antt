use Rattle.std.proofs.Common.{◌≡◌, ◌+◌, ◌<◌, ◌^◌, length, drop}
use Rattle.wire_rows.specs.Spelling.{rows_bytes}
use Rattle.wire_rows.specs.Answering.{held}
use Rattle.wire_rows.proofs.sizes.with_rows.Given as goal

abbrev pub invariant-loop-row : goal.invariant-loop-row
invariant-loop-row l = (held (l.size + length (rows_bytes (drop l.row-index l.rows))) ≡ held (l.initial.size + length (rows_bytes l.rows))) × (l.size < 2 ^ 64)
