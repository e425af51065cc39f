use Rattle.std.proofs.Common.{◌≡◌, ◌+◌, ◌≤◌, drop}
use Rattle.session_spec.specs.Statements.{prepared_count}
use Rattle.session_table.proofs.statements.prepared_count.Given as goal

abbrev pub invariant-loop-statement : goal.invariant-loop-statement
invariant-loop-statement l = record {
  counted : l.count + prepared_count (drop l.statement-index l.statements) ≡ prepared_count l.statements;
  few : l.count ≤ l.statement-index;
}
