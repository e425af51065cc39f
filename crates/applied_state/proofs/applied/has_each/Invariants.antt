use Rattle.std.proofs.Common.{◌≡◌, drop}
use Rattle.database_state.specs.Machines.{names_of}
use Rattle.applied_state.specs.Applied.{has_names}
use Rattle.applied_state.proofs.applied.has_each.Given as goal

abbrev pub invariant-loop-database : goal.invariant-loop-database
invariant-loop-database l = has_names (names_of l.machine) (names_of l.databases) ≡ has_names (names_of l.machine) (names_of (drop l.database-index l.databases))
