use Rattle.std.proofs.Common.{◌*◌, ◌≤◌}
use Rattle.sqlite_tests.specs.Told.{AreTold}
use Rattle.sqlite_tests.proofs.following.beside.Given as goal

-- what the engine learns
abbrev pub invariant-loop-is_read : goal.invariant-loop-is_read
invariant-loop-is_read l = AreTold l.newest l.commits (2 * l.commits) l.engine.known × (l.commits ≤ 100)
