use Rattle.std.proofs.Common.{◌≡◌, ◌++◌, drop}
use Rattle.std.specs.List.{AllByRecursion}
use Rattle.wire_words.specs.Values.{AreWritable}
use Rattle.wire_rows.specs.Spelling.{rows_bytes}
use Rattle.wire_rows.proofs.writing.put_rows.Given as goal

abbrev pub invariant-loop-row : goal.invariant-loop-row
invariant-loop-row l = (l.out ++ rows_bytes (drop l.row-index l.rows) ≡ l.initial.out ++ rows_bytes l.rows) × AllByRecursion AreWritable (drop l.row-index l.rows)
