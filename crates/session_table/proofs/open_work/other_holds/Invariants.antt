use Rattle.std.proofs.Common.{◌≡◌, List, drop}
use Rattle.std.specs.List.{list_any}
use Rattle.database_state.specs.declared.database.Database.{Database}
use Rattle.session_table.specs.Table.{holds_beside}
use Rattle.session_table.proofs.open_work.other_holds.Given as goal

abbrev pub invariant-loop-session : goal.invariant-loop-session
invariant-loop-session l = (databases : List Database) → list_any (holds_beside databases l.conn l.name) (drop l.session-index l.sessions) ≡ list_any (holds_beside databases l.conn l.name) l.sessions
