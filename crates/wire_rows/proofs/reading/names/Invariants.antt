use Rattle.std.proofs.Common.{◌≡◌, ◌-◌}
use Rattle.wire_rows.specs.Reading.{names_at}
use Rattle.wire_rows.proofs.ReadLoops.{with_front}
use Rattle.wire_rows.proofs.reading.names.Given as goal

abbrev pub invariant-loop : goal.invariant-loop
invariant-loop l = with_front l.names.items (names_at (l.count - l.counter) l.words) ≡ names_at l.count l.initial.words
