use Rattle.std.proofs.Common.{◌≡◌, length}
use Rattle.wire_rows.specs.Spelling.{HaveNoNul}
use Rattle.wire_tests.proofs.rows.columns.Given as goal

abbrev pub invariant-loop : goal.invariant-loop
invariant-loop l = HaveNoNul l.names.items × (length l.names.items ≡ l.counter)
