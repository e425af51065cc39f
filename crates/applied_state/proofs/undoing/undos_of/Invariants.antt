use Rattle.std.proofs.Common.{◌≡◌}
use Rattle.std.specs.List.{AllByRecursion}
use Rattle.session_spec.specs.Entries.{written}
use Rattle.session_spec.specs.Seen.{HasSpelling}
use Rattle.applied_state.proofs.EachUndo.{undos_to}
use Rattle.applied_state.proofs.undoing.undos_of.Given as goal

abbrev pub invariant-loop-database : goal.invariant-loop-database
invariant-loop-database l = record {
  so_far : l.entries.items ≡ written l.term (undos_to l.databases l.database-index);
  spelled : AllByRecursion HasSpelling (undos_to l.databases l.database-index);
}
