use Rattle.std.proofs.Common.{◌≡◌, ◌++◌, drop}
use Rattle.std.specs.List.{AllByRecursion}
use Rattle.database_state.specs.Databases.{contents_of}
use Rattle.database_state.specs.Snapshot.{IsKept, contents_text}
use Rattle.database_state.proofs.snapshot.put_databases.Given as goal

abbrev pub invariant-loop-database : goal.invariant-loop-database
invariant-loop-database l = record {
  bytes : l.out.items ++ contents_text (contents_of (drop l.database-index l.databases)) ≡ l.initial.out.items ++ contents_text (contents_of l.databases);
  kept : AllByRecursion IsKept (contents_of (drop l.database-index l.databases)) → AllByRecursion IsKept (contents_of l.databases);
}
