use Rattle.std.proofs.Common.{◌≡◌, ◌++◌, map, take, drop}
use Rattle.database_state.specs.Databases.{undone}
use Rattle.database_state.proofs.machine.undo.Given as goal

abbrev pub invariant-loop-database : goal.invariant-loop-database
invariant-loop-database l = take l.database-index l.databases ++ map (undone l.tx) (drop l.database-index l.databases) ≡ map (undone l.tx) l.initial.databases
