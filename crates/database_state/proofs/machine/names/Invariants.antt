use Rattle.std.proofs.Common.{◌≡◌, ◌++◌, drop}
use Rattle.database_state.specs.Machines.{names_of}
use Rattle.database_state.proofs.machine.names.Given as goal

abbrev pub invariant-loop-database : goal.invariant-loop-database
invariant-loop-database l = l.names.items ++ names_of (drop l.database-index l.databases) ≡ names_of l.databases
