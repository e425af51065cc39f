-- A table of sessions as the rules see it, with the images that open transactions have pinned in a state machine.
use Rattle.std.specs.Prelude.{◌≢◌, ℕ, ◌≤◌, ◌==◌, Bool, true, not, ◌&&◌, List, [], ◌∷◌, ◌++◌, length, map, find, Option, Some, None}
use Rattle.std.specs.Option.{option_map}
use Rattle.std.specs.List.{AllByRecursion}
use Rattle.database_state.specs.declared.database.Database.{Database}
use Rattle.dq_base.specs.declared.images.Image.{Image}
use Rattle.database_state.specs.Pins.{Pinning, pinned_image}
use Rattle.database_state.specs.Files.{empty_image}
use Rattle.session_spec.specs.Sessions.{Transaction as RuleTransaction, Session as RuleSession, Gateway, absent}
use Rattle.session_spec.specs.Limits.{holds, flown_by}
use Rattle.session_table.specs.Named.{later_named}
use Rattle.session_table.specs.declared.session.Session.{Session}
use Rattle.session_table.specs.declared.session.Transaction.{Transaction}

-- the name of the database that was opened; the empty name where none was
abbrev pub database_of : Option (List ℕ) → List ℕ
database_of None = []
database_of (Some name) = name

-- the image that a transaction has pinned; the empty one if the database was missing
abbrev pub image_pinned : List Database → Option Pinning → Image
image_pinned databases None = empty_image
image_pinned databases (Some pin) = pinned_image databases pin

-- an open transaction, with the image that its mark shows
abbrev pub transaction_of : List Database → Transaction → RuleTransaction
transaction_of databases x = record { name = x.name; mark = x.mark; pinned = image_pinned databases x.pin; working = x.working; turn = x.turn; touched = x.touched.items }

abbrev pub session_of : List Database → Session → RuleSession
session_of databases s = record {
  there = true;
  hung = s.hung;
  database = database_of s.database;
  barriers = s.barriers;
  later = option_map later_named s.later;
  statements = s.statements.items;
  tx = option_map (transaction_of databases) s.transaction;
  lost = s.lost;
  flight = s.flight;
}

abbrev pub has_conn : ℕ → Session → Bool
has_conn conn s = s.conn == conn

abbrev pub session_found : List Database → Option Session → RuleSession
session_found databases None = absent
session_found databases (Some s) = session_of databases s

-- the session of a connection
unfoldable pub session_at : List Database → List Session → ℕ → RuleSession
session_at databases sessions conn = session_found databases (find (has_conn conn) sessions)

-- the table as the rules' gateway
unfoldable pub table_of : List Database → List Session → ℕ → Gateway
table_of databases sessions weight = record { conns = map (λ (s : Session). s.conn) sessions; session = session_at databases sessions; weight = weight }

-- no two sessions are of one connection
abbrev pub AreApart : List Session → Type 0
AreApart [] = Unit {0}
AreApart (s ∷ ss) = AllByRecursion (λ (t : Session). s.conn ≢ t.conn) ss × AreApart ss

-- A table: no two sessions are of one connection, and there are 64 at most.
pub record IsTable (sessions : List Session) : Type 0 where
  pub apart : AreApart sessions
  pub few : length sessions ≤ 64

-- whether the session of another connection has the write lock of the database of a name
abbrev pub holds_beside : List Database → ℕ → List ℕ → Session → Bool
holds_beside databases conn name s = not (s.conn == conn) && holds (session_of databases s) name

-- the pages that a session's proposal gives a database
abbrev pub flown_in : List ℕ → Session → ℕ
flown_in name s = flown_by s.flight name

abbrev pub mark_of : Option Pinning → List Pinning
mark_of None = []
mark_of (Some pin) = pin ∷ []

-- the read mark of a transaction
abbrev pub pin_of : Option Transaction → List Pinning
pin_of None = []
pin_of (Some x) = mark_of x.pin

-- the read marks of the transactions
abbrev pub pins_of : List Session → List Pinning
pins_of [] = []
pins_of (s ∷ ss) = pin_of s.transaction ++ pins_of ss
