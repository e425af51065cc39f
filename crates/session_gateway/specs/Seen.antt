-- The sessions of a gateway, with the images that their transactions have pinned in a state machine.
use Rattle.std.specs.Prelude.{ℕ, List, map}
use Rattle.sql_engine.specs.Known.{Known}
use Rattle.database_state.specs.declared.database.Database.{Database}
use Rattle.database_state.specs.ImageNumbers.{numbered}
use Rattle.database_state.specs.Pins.{Pinning}
use Rattle.session_spec.specs.Sessions.{Gateway}
use Rattle.session_spec.specs.Touched.{IsListed}
use Rattle.session_table.specs.declared.session.Session.{Session}
use Rattle.session_table.specs.Marks.{AreMarks}
use Rattle.session_table.specs.Table as tables
use Rattle.session_table.specs.Working.{works_of}
use Rattle.session_statements.specs.Agreeing.{Agree}

-- what a gateway holds: the sessions, the node's weight, and the number that the next working image gets
pub record Held : Type 0 where
  pub sessions : List Session
  pub weight : ℕ
  pub next : ℕ

-- the sessions as the rules see them
unfoldable pub seen : Held → List Database → Gateway
seen held databases = tables.table_of databases held.sessions held.weight

-- the read marks of their transactions
unfoldable pub pins_of : Held → List Pinning
pins_of held = tables.pins_of held.sessions

-- the state machine's live marks are those of the sessions
abbrev pub PinsOf : Held → List Database → Type 0
PinsOf held databases = AreMarks (pins_of held) databases

-- no number represents two images: neither for an engine, nor for the transactions, nor for the state machine's databases
abbrev pub Agrees : List Known → Held → List Database → Type 0
Agrees known held databases = Agree known (works_of held.sessions) held.next (map numbered databases)

-- each session whose transaction has the numbers of all pages that it changed is so afterwards
abbrev pub ListsAsBefore : Gateway → Gateway → Type 0
ListsAsBefore g now = (conn : ℕ) → IsListed (g.session conn).tx → IsListed (now.session conn).tx
