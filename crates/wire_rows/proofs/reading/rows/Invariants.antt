use Rattle.std.proofs.Common.{◌≡◌, ◌-◌}
use Rattle.wire_rows.specs.Reading.{rows_at}
use Rattle.wire_rows.proofs.ReadLoops.{with_rows}
use Rattle.wire_rows.proofs.reading.rows.Given as goal

abbrev pub invariant-loop : goal.invariant-loop
invariant-loop l = with_rows l.rows.items (rows_at (l.budget - l.counter) l.count l.words) ≡ rows_at l.budget l.count l.initial.words
