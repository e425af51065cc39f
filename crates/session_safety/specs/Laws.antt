-- What holds of each life of a node.
use Rattle.std.specs.Prelude.{◌≡◌, ◌≢◌, ◌⊎◌, ℕ, suc, ◌<◌, ◌≤◌, Bool, true, false, List, [], ◌∷◌, ◌++◌, length, Option, Some, None, IsSome}
use Rattle.dq_base.specs.Changes.{changed}
use Rattle.sql_engine.specs.declared.kind.EngineKind.{EngineKind}
use Rattle.sql_engine.specs.Meanings.{Meaning}
use Rattle.session_spec.specs.Causes.{LeadershipLost}
use Rattle.session_spec.specs.Entries.{Entry}
use Rattle.session_spec.specs.Engines.{no_pages}
use Rattle.session_spec.specs.Sessions.{is_due, Refusal, Kind, Opening, Configuring, Writing, Committing, Querying, Flight, Due, Transaction, Session}
use Rattle.session_spec.specs.Limits.{is_write, holds, other_holds}
use Rattle.session_spec.specs.Asking.{has_database}
use Rattle.session_safety.specs.Woven.{Woven}
use Rattle.session_safety.specs.Nodes.{Query, Commit, Said, Node, databases, started, applied_entries}
use Rattle.session_safety.specs.Life.{Event, Connect, Apply, Lose, commit_of, happens, run_from, AllFit}
use Rattle.session_safety.specs.Replies.{CommitOk, AllSaid}

-- the node after these events
abbrev pub life : List Entry → ℕ → ℕ → List Event → Node
life log applied term es = run_from (started log applied term) es

-- a node may start so
pub record Starts (log : List Entry) (applied : ℕ) : Type 0 where
  pub within : applied ≤ length log
  pub woven : Woven log

-- Something holds of every node after events that fit, from every start.
abbrev pub OfLives : Meaning → EngineKind → (Node → Type 0) → Type 0
OfLives m kind P = (log : List Entry) (applied term : ℕ) (es : List Event) → Starts log applied → AllFit m kind (started log applied term) es → P (life log applied term es)

-- Each reply of a life is right by the entries that the node has applied.
abbrev pub LivesAreSafe : Meaning → EngineKind → Type 0
LivesAreSafe m kind = OfLives m kind (λ w. AllSaid m (applied_entries w) w.said)

-- What was applied stays, and what was said.
pub record Lasts (w v : Node) : Type 0 where
  pub more : List Entry
  pub applied : applied_entries v ≡ applied_entries w ++ more
  pub later : List Said
  pub said : v.said ≡ w.said ++ later

abbrev pub LivesLast : Meaning → EngineKind → Type 0
LivesLast m kind = (log : List Entry) (applied term : ℕ) (es fs : List Event) → Starts log applied → AllFit m kind (started log applied term) (es ++ fs) → Lasts (life log applied term es) (life log applied term (es ++ fs))

-- Between these two moments of a node, a reply that waited for an entry is said where the node, leading in the term of that
-- entry, has just applied it, which it hadn't before.
abbrev pub SaidHere : Node → Node → Said → Type 0
SaidHere w v x = 0 < x.index → (w.applied < x.index) × (x.index ≡ v.applied) × (x.term ≡ v.term) × (v.leads ≡ true)

abbrev pub AllHere : Node → Node → List Said → Type 0
AllHere w v [] = Unit {0}
AllHere w v (x ∷ xs) = SaidHere w v x × AllHere w v xs

abbrev pub AnsweredHere : Meaning → EngineKind → Type 0
AnsweredHere m kind = (log : List Entry) (applied term : ℕ) (es : List Event) (e : Event) → Starts log applied → AllFit m kind (started log applied term) (es ++ e ∷ []) → (more : List Said) × ((life log applied term (es ++ e ∷ [])).said ≡ (life log applied term es).said ++ more) × AllHere (life log applied term es) (life log applied term (es ++ e ∷ [])) more

-- some reply is to this connection, and passes the test
abbrev pub SaidTo : ℕ → (Said → Type 0) → List Said → Type 0
SaidTo conn P [] = ⊥
SaidTo conn P (x ∷ xs) = ((x.conn ≡ conn) × P x) ⊎ SaidTo conn P xs

-- A proposal is answered where its last entry is applied; if it is a barrier its query is due then.
abbrev pub Lands : Node → ℕ → Flight → Kind → Type 0
Lands w conn f Opening = SaidTo conn (λ x. x.index ≡ f.last) (happens w Apply).said
Lands w conn f (Configuring short) = SaidTo conn (λ x. x.index ≡ f.last) (happens w Apply).said
Lands w conn f (Writing reply) = SaidTo conn (λ x. x.index ≡ f.last) (happens w Apply).said
Lands w conn f Committing = SaidTo conn (λ x. x.index ≡ f.last) (happens w Apply).said
Lands w conn f (Querying statement) = ((happens w Apply).gate.session conn).later ≡ Some (Due statement)

-- This holds for a pending proposal whose client is there; and it is answered with a refusal where leadership is lost before.
abbrev pub IsAnswered : Node → ℕ → Flight → Type 0
IsAnswered w conn f = (f.last ≡ suc w.applied → Lands w conn f f.kind) × ((term : ℕ) → SaidTo conn (λ x. x.reply ≡ Refusal LeadershipLost) (happens w (Lose term)).said)

-- A query that is due, whose client is there, is answered with a refusal where leadership is lost.
abbrev pub DueIsTold : Node → ℕ → Type 0
DueIsTold w conn = is_due (w.gate.session conn).later ≡ true → (w.gate.session conn).hung ≡ false → (term : ℕ) → SaidTo conn (λ x. x.reply ≡ Refusal LeadershipLost) (happens w (Lose term)).said

abbrev pub AnswersCome : Meaning → EngineKind → Type 0
AnswersCome m kind = OfLives m kind (λ w. (conn : ℕ) → ((f : Flight) → (w.gate.session conn).flight ≡ Some f → (w.gate.session conn).hung ≡ false → IsAnswered w conn f) × DueIsTold w conn)

-- each reply to this connection passes the test
abbrev pub EachTo : ℕ → (Said → Type 0) → List Said → Type 0
EachTo conn P [] = Unit {0}
EachTo conn P (x ∷ xs) = (x.conn ≡ conn → P x) × EachTo conn P xs

-- the query's image, if there is one, is of an index up to this one
abbrev pub QueryUpTo : ℕ → Option Query → Type 0
QueryUpTo n None = Unit {0}
QueryUpTo n (Some q) = q.at ≤ n

-- the commit, if there is one, ends at an index up to this one
abbrev pub CommitUpTo : ℕ → Option Commit → Type 0
CommitUpTo n None = Unit {0}
CommitUpTo n (Some c) = c.last ≤ n

-- the image and the commit that a reply rests on are of indexes up to this one
pub record RestsUpTo (n : ℕ) (x : Said) : Type 0 where
  pub query : QueryUpTo n x.query
  pub commit : CommitUpTo n x.commit

-- what a query counts as seen reaches all that an earlier reply rests on
abbrev pub HadSeen : Said → Option Query → Type 0
HadSeen x None = Unit {0}
HadSeen x (Some q) = RestsUpTo q.seen x

-- Of these replies, the queries of those to the connection had seen all earlier ones to it.
abbrev pub SeeEarlier : ℕ → List Said → Type 0
SeeEarlier conn [] = Unit {0}
SeeEarlier conn (x ∷ xs) = (x.conn ≡ conn → EachTo conn (λ y. HadSeen x y.query) xs) × SeeEarlier conn xs

-- no connection of this number comes
abbrev pub NoneComes : ℕ → List Event → Type 0
NoneComes conn [] = Unit {0}
NoneComes conn (e ∷ es) = (e ≢ Connect conn) × NoneComes conn es

-- from one moment to another the replies to a connection see the earlier ones
pub record Sees (conn : ℕ) (w v : Node) : Type 0 where
  pub more : List Said
  pub said : v.said ≡ w.said ++ more
  pub see : SeeEarlier conn more

-- What a connection has seen is not below what any of its earlier replies rests on, from where the connection came: a number
-- that comes again is another connection.
abbrev pub LivesSee : Meaning → EngineKind → Type 0
LivesSee m kind = (log : List Entry) (applied term : ℕ) (es fs : List Event) (conn : ℕ) → Starts log applied → AllFit m kind (started log applied term) (es ++ fs) → NoneComes conn fs → Sees conn (life log applied term es) (life log applied term (es ++ fs))

-- no transaction is open at the session, nothing is pending, and no query is due
pub record HasNothingOpen (s : Session) : Type 0 where
  pub tx : s.tx ≡ None
  pub flight : s.flight ≡ None
  pub due : is_due s.later ≡ false

-- This holds for each session wherever the node doesn't serve. Between a lost leadership and the next service none begins a
-- transaction, so a state machine that comes in a snapshot meanwhile has no marks to carry over.
abbrev pub IdleIsEmpty : Meaning → EngineKind → Type 0
IdleIsEmpty m kind = OfLives m kind (λ w. w.serving ≡ false → (conn : ℕ) → HasNothingOpen (w.gate.session conn))

-- The log of each life is woven.
abbrev pub LivesWeave : Meaning → EngineKind → Type 0
LivesWeave m kind = OfLives m kind (λ w. Woven w.log)

-- At most one session has the write lock of a database.
abbrev pub OneTurn : Meaning → EngineKind → Type 0
OneTurn m kind = OfLives m kind (λ w. (one other : ℕ) (name : List ℕ) → one ≢ other → holds (w.gate.session one) name ≡ true → holds (w.gate.session other) name ≡ true → ⊥)

-- A transaction that never took the write lock has the image that it pinned.
abbrev pub ChangesTakeTurns : Meaning → EngineKind → Type 0
ChangesTakeTurns m kind = OfLives m kind (λ w. (conn : ℕ) (x : Transaction) → (w.gate.session conn).tx ≡ Some x → x.turn ≡ false → x.working ≡ x.pinned)

-- The commit of a transaction meets nothing that others did: no one else has the write lock, and no commit came between.
pub record Passes (w : Node) (conn : ℕ) (x : Transaction) : Type 0 where
  pub turn : other_holds w.gate conn x.name ≡ false
  pub newest : ((databases w).base x.name).newest ≡ x.mark

-- This holds for each transaction that changed pages: its COMMIT is refused neither for the write lock nor for an old image.
abbrev pub CommitsPass : Meaning → EngineKind → Type 0
CommitsPass m kind = OfLives m kind (λ w. (conn : ℕ) (x : Transaction) → (w.gate.session conn).tx ≡ Some x → (w.gate.session conn).flight ≡ None → no_pages (changed x.pinned x.working) ≡ false → Passes w conn x)

-- A pending write already is whole in the node's log, ahead of what is applied, in the node's term: as a commit it is
-- right by that log.
pub record Stands (m : Meaning) (w : Node) (conn : ℕ) (f : Flight) : Type 0 where
  pub commit : CommitOk m w.log (commit_of f (w.trail conn).ran)
  pub term : f.term ≡ w.term
  pub ahead : w.applied < f.last

abbrev pub FlightsStand : Meaning → EngineKind → Type 0
FlightsStand m kind = OfLives m kind (λ w. (conn : ℕ) (f : Flight) → (w.gate.session conn).flight ≡ Some f → is_write f.kind ≡ true → Stands m w conn f)

-- ---- queries that wait for their answers

abbrev pub is_barrier : Kind → Bool
is_barrier Opening = false
is_barrier (Configuring short) = false
is_barrier (Writing reply) = false
is_barrier Committing = false
is_barrier (Querying statement) = true

-- the barrier before a query is pending
abbrev pub awaits_barrier : Option Flight → Bool
awaits_barrier None = false
awaits_barrier (Some f) = is_barrier f.kind

-- The session has opened a database where a query of it waits for its answer: after its barrier, to be run next, or at a reader.
pub record HasOpened (s : Session) : Type 0 where
  pub awaits : awaits_barrier s.flight ≡ true → has_database s ≡ true
  pub later : IsSome s.later → has_database s ≡ true

-- This holds for each session after any list of events, whatever the engine answers: a query that is run later than it was asked has
-- a database to run over.
abbrev pub QueriesHaveDatabases : Type 0
QueriesHaveDatabases = (log : List Entry) (applied term : ℕ) (es : List Event) (conn : ℕ) → HasOpened ((life log applied term es).gate.session conn)
