use Rattle.std.proofs.Common.{◌≡◌, drop, find}
use Rattle.database_state.specs.Databases.{has_name}
use Rattle.session_requests.proofs.databases.database_named.Given as goal

abbrev pub invariant-loop-database : goal.invariant-loop-database
invariant-loop-database l = find (has_name l.name) (drop l.database-index l.databases) ≡ find (has_name l.name) l.databases
