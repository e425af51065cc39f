use Rattle.std.proofs.Common.{◌≡◌, ◌+◌, drop}
use Rattle.session_spec.specs.Statements.{free_id}
use Rattle.session_table.proofs.statements.free_id.Given as goal

abbrev pub invariant-loop-id : goal.invariant-loop-id
invariant-loop-id l = l.id + free_id (drop l.id l.statements) ≡ free_id l.statements
