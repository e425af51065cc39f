-- A transaction is open or lost until its client ends it, and until then no statement of its connection runs outside of it.
use Rattle.std.specs.Prelude.{◌≡◌, ◌⊎◌, ℕ, Bool, true, false, ◌||◌, List}
use Rattle.wire_msgs.specs.declared.request.Request.{Request}
use Rattle.session_spec.specs.Asking.{Asked, Commits, RollsBack, Forgets, asked}
use Rattle.session_spec.specs.Engines.{Answer}
use Rattle.session_spec.specs.Events.{is_committing, on_applied, on_lost}
use Rattle.session_spec.specs.Machine.{Machine}
use Rattle.session_spec.specs.Requests.{on_request}
use Rattle.session_spec.specs.Sessions.{Session, Gateway, View, in_tx, Note, Nothing, Began, Inside, Outside, Turned, Refused, Lacks, Answers, Proposes, Lends, Affects}

-- the client of the connection has begun a transaction that it hasn't ended: it is open, or was lost with leadership
abbrev pub has_transaction : Session → Bool
has_transaction s = in_tx s || s.lost

-- the request ends a transaction, by COMMIT or ROLLBACK
abbrev pub IsEnd : Asked → Type 0
IsEnd Commits = Unit {0}
IsEnd RollsBack = Unit {0}
IsEnd (Forgets response) = Unit {0}
IsEnd asked = ⊥

-- no statement ran outside of a transaction, and none began
abbrev pub IsInside : Note → Type 0
IsInside Nothing = Unit {0}
IsInside Began = ⊥
IsInside (Inside name ss) = Unit {0}
IsInside (Outside name ss) = ⊥

-- the session has its transaction still, and what ran is inside of it
abbrev pub StaysInside : Turned → Type 0
StaysInside (Refused cause) = Unit {0}
StaysInside Lacks = Unit {0}
StaysInside (Answers t reply note) = (has_transaction t ≡ true) × IsInside note
StaysInside (Proposes t contents note) = (has_transaction t ≡ true) × IsInside note
StaysInside (Lends t job) = ⊥
StaysInside (Affects effect) = Unit {0}

-- What a client asks with a transaction ends it, or leaves it and runs nothing outside of it.
abbrev pub RequestsStayInside : Type 0
RequestsStayInside = (v : View) (m : Machine) (g : Gateway) (conn : ℕ) (request : Request) (answers : List Answer) → has_transaction (g.session conn) ≡ true
    → IsEnd (asked v m g conn request) ⊎ StaysInside (on_request v m g conn request answers)

-- An applied entry and lost leadership leave it, unless its COMMIT is proposed.
pub record TransactionStays (g : Gateway) (conn : ℕ) : Type 0 where
  pub applied : (index : ℕ) → has_transaction ((on_applied index g).session conn) ≡ true
  pub lost : has_transaction ((on_lost g).session conn) ≡ true

abbrev pub TransactionsStay : Type 0
TransactionsStay = (g : Gateway) (conn : ℕ) → has_transaction (g.session conn) ≡ true → (g.session conn).hung ≡ false → is_committing (g.session conn).flight ≡ false → TransactionStays g conn
