use Rattle.wire_rows.specs.Spelling.{HaveWidth}
use Rattle.wire_tests.proofs.rows.integers.Given as goal

abbrev pub invariant-loop : goal.invariant-loop
invariant-loop l = HaveWidth 1 l.rows.items
