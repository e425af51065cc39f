-- What a request changes of its own session, and where the session stands.
use Rattle.std.specs.Prelude.{◌≡◌, ◌≢◌, ℕ, ◌<◌, Bool, true, false, List, [], ◌++◌, length, get_or, Option, Some, None, IsSome, if◌then◌else◌}
use Rattle.std.specs.List.{AllByRecursion}
use Rattle.dq_base.specs.declared.pages.NumberedPage.{NumberedPage}
use Rattle.dq_base.specs.Applying.{applied}
use Rattle.database_state.specs.declared.database.Database.{Database}
use Rattle.session_spec.specs.Sessions.{Gateway, Lent, fresh, Prepared, Transaction as RuleTransaction, Session as RuleSession}
use Rattle.session_spec.specs.Touched.{numbers_of}
use Rattle.session_spec.specs.Statements.{with_prepared, without_prepared, prepared_at}
use Rattle.session_spec.specs.Requests.{with_tx, with_flight, with_statements, with_database, with_barriers, with_later, with_lost}
use Rattle.session_spec.specs.Events.{connects, connected}
use Rattle.session_table.specs.declared.session.Session.{Session}
use Rattle.session_table.specs.declared.session.Transaction.{Transaction}
use Rattle.session_table.specs.Table.{session_of, pin_of}
use Rattle.session_table.specs.Working.{work_of}
use Rattle.session_table.specs.declared.change.Change.{Change}
use Rattle.session_table.specs.declared.change.Change.TheVariants as changes

-- no session is of the connection
abbrev pub IsAbsent : ℕ → List Session → Type 0
IsAbsent conn sessions = AllByRecursion (λ (s : Session). conn ≢ s.conn) sessions

-- the session of the connection is at this place
pub record StandsAt (conn : ℕ) (sessions : List Session) (place : ℕ) : Type 0 where
  pub within : place < length sessions
  pub own : (s : Session) → (get_or sessions place s).conn ≡ conn

-- a transaction that has changed pages, and so has the write lock
abbrev pub worked_on : List NumberedPage → Option RuleTransaction → Option RuleTransaction
worked_on pages None = None
worked_on pages (Some x) = Some (record { name = x.name; mark = x.mark; pinned = x.pinned; working = applied x.working pages; turn = true; touched = x.touched ++ numbers_of pages })

-- the session after a change
abbrev pub changed_by : RuleSession → Change → RuleSession
changed_by s changes.Stays = s
changed_by s (changes.Opens name barriers) = with_barriers (with_database s name) barriers
changed_by s (changes.Creates flight barriers) = with_flight (with_barriers s barriers) (Some flight)
changed_by s (changes.Lends query) = with_later s (Some (Lent query))
changed_by s (changes.Prepares prepared) = with_statements s (with_prepared prepared s.statements)
changed_by s (changes.Drops id) = with_statements s (without_prepared id s.statements)
changed_by s changes.Forgets = with_lost s false
changed_by s (changes.Works pages number) = with_tx s (worked_on pages.pages s.tx)
changed_by s (changes.Flies flight) = with_flight s (Some flight)

-- a statement that is let go is there
abbrev pub CanChange : List (Option Prepared) → Change → Type 0
CanChange statements (changes.Drops id) = IsSome (prepared_at statements id)
CanChange statements change = Unit {0}

-- a session of a connection that has just come
pub record FreshFor (conn : ℕ) (s : Session) : Type 0 where
  pub own : s.conn ≡ conn
  pub unmarked : pin_of s.transaction ≡ []
  pub workless : work_of s.transaction ≡ []
  pub fresh_so : (databases : List Database) → session_of databases s ≡ fresh

-- A connection came: it got a session where the rules give it one, and else nothing changed.
pub record Joined (g : Gateway) (conn : ℕ) (new : Bool) (now : Gateway) : Type 0 where
  pub told : new ≡ connects g conn
  pub table : now ≡ (if connects g conn then connected g conn else g)

-- a session with an open transaction
abbrev pub with_transaction : Session → Transaction → Session
with_transaction s x = record { conn = s.conn; hung = s.hung; database = s.database; barriers = s.barriers; later = s.later; statements = s.statements; transaction = Some x; lost = s.lost; flight = s.flight }
