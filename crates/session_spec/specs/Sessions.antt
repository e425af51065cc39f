-- The sessions of a node, what a node is for them, and what comes of a request.
use Rattle.std.specs.Prelude.{ℕ, Bool, true, false, not, ◌&&◌, ◌||◌, List, [], ◌∷◌, map, is_none, Option, Some, None}
use Rattle.dq_base.specs.declared.images.Image.{Image}
use Rattle.wire_msgs.specs.declared.response.Response.{Response}
use Rattle.wire_msgs.specs.declared.response.Response.TheVariants as responses
use Rattle.wire_rows.specs.Cut.{cut, bodies}
use Rattle.sql_scan.specs.declared.heading.WordKind.{WordKind}
use Rattle.sql_engine.specs.declared.answer.StatementResult.{StatementResult}
use Rattle.sql_engine.specs.Replies.{Statement}
use Rattle.raft_spec.specs.Node.{Server}
use Rattle.session_spec.specs.Causes.{Cause, TargetBehind, failure}
use Rattle.session_spec.specs.Entries.{Content}

-- ---- replies

-- a reply to a request: a refusal, one response, or the rows of an answer
pub data Reply : Type 0 where
  Refusal : (cause : Cause) → Reply
  Single : (response : Response) → Reply
  Rows : (answer : StatementResult) → Reply

-- the responses that it is sent in: rows in as many as they have parts
abbrev pub responses_of : Reply → List Response
responses_of (Refusal cause) = failure cause ∷ []
responses_of (Single response) = response ∷ []
responses_of (Rows answer) = map (λ (body : List ℕ). responses.Rows body) (bodies answer.columns (cut answer.columns answer.rows))

-- a RESULT: no key is ever told
abbrev pub result : ℕ → Reply
result affected = Single (responses.Result 0 affected)

abbrev pub empty : Reply
empty = Single responses.Empty

-- of a change of servers: EMPTY, or a refusal where a server was to be a voter and falls short of it
abbrev pub change_reply : Bool → Reply
change_reply false = empty
change_reply true = Single (failure TargetBehind)

-- a connection has one database, of the number 0
abbrev pub db : Reply
db = Single (responses.Db 0)

-- ---- sessions

-- a prepared statement: its text, its kind, and how many parameters it has
pub record Prepared : Type 0 where
  pub text : List ℕ
  pub word : WordKind
  pub params : ℕ

-- what a pending proposal is for: a new database; other servers of the cluster, with whether a
-- server falls short of what it was to be; the write of statements outside a
-- transaction, with the reply that it gets; the commit of the open transaction; the barrier before a query
pub data Kind : Type 0 where
  Opening : Kind
  Configuring : (short : Bool) → Kind
  Writing : (reply : Reply) → Kind
  Committing : Kind
  Querying : (statement : Statement) → Kind

-- A pending proposal: its entries were appended in the term, at the indexes from first to last. If it is for a
-- database, it has the name, and how many pages the database has after it.
pub record Flight : Type 0 where
  pub name : List ℕ
  pub first : ℕ
  pub last : ℕ
  pub term : ℕ
  pub pages : ℕ
  pub kind : Kind

-- An open transaction: its database; how many commits this had when the transaction began, and the image then; that image
-- with the transaction's own changes; whether it has the write lock; and the numbers of the pages that its statements changed,
-- in the order in which they did.
pub record Transaction : Type 0 where
  pub name : List ℕ
  pub mark : ℕ
  pub pinned : Image
  pub working : Image
  pub turn : Bool
  pub touched : List ℕ

-- A query that its session has yet to answer, with nothing pending for it: its barrier is applied, and it is run next; or a
-- reader beside the node runs it.
pub data Later : Type 0 where
  Due : (statement : Statement) → Later
  Lent : (statement : Statement) → Later

-- A session. `there` is false of a connection that has none. A session is `hung` whose client has gone while its proposal
-- is pending. The database is the empty name where none was opened. If the connection asked for `barriers`, its queries
-- outside a transaction wait for a barrier. A statement's number is its place in the list. A session is `lost` whose transaction
-- was open when leadership was lost, and which neither COMMIT nor ROLLBACK has ended since.
pub record Session : Type 0 where
  pub there : Bool
  pub hung : Bool
  pub database : List ℕ
  pub barriers : Bool
  pub later : Option Later
  pub statements : List (Option Prepared)
  pub tx : Option Transaction
  pub lost : Bool
  pub flight : Option Flight

-- the connections that have a session, in the order in which they came; the session of each; and the node's weight
pub record Gateway : Type 0 where
  pub conns : List ℕ
  pub session : ℕ → Session
  pub weight : ℕ

abbrev pub absent : Session
absent = record { there = false; hung = false; database = []; barriers = false; later = None; statements = []; tx = None; lost = false; flight = None }

abbrev pub fresh : Session
fresh = record { there = true; hung = false; database = []; barriers = false; later = None; statements = []; tx = None; lost = false; flight = None }

-- a node that has just started
abbrev pub no_sessions : Gateway
no_sessions = record { conns = []; session = λ conn. absent; weight = 0 }

-- a transaction is open
abbrev pub in_tx : Session → Bool
in_tx s = not (is_none s.tx)

-- a proposal is pending
abbrev pub is_flying : Session → Bool
is_flying s = not (is_none s.flight)

-- the query waits for nothing more, and is run next
abbrev pub is_due : Option Later → Bool
is_due None = false
is_due (Some (Due statement)) = true
is_due (Some (Lent statement)) = false

-- the query itself, wherever it is run
abbrev pub later_query : Option Later → Option Statement
later_query None = None
later_query (Some (Due statement)) = Some statement
later_query (Some (Lent statement)) = Some statement

-- the query that a reader runs
abbrev pub lent_query : Option Later → Option Statement
lent_query None = None
lent_query (Some (Due statement)) = None
lent_query (Some (Lent statement)) = Some statement

-- the last request waits for its answer
abbrev pub is_busy : Session → Bool
is_busy s = is_flying s || not (is_none s.later)

-- a request may be handled
unfoldable pub may_ask : Session → Bool
may_ask s = s.there && not s.hung && is_none s.flight && is_none s.later

-- What a node is at the moment: its id; the leader that it knows in its term; whether it serves as the leader; its term and
-- its last index; the servers of the applied configuration; whether it has peer connections to other nodes, and readers that work for it; and,
-- at a leader, the peers whose log is known to reach its last index, and those whose log is known to lack at most the last 16 entries.
pub record View : Type 0 where
  pub id : ℕ
  pub leader : Option ℕ
  pub serving : Bool
  pub term : ℕ
  pub last : ℕ
  pub servers : List Server
  pub links : Bool
  pub readers : Bool
  pub even : List ℕ
  pub near : List ℕ

-- ---- what comes of a request

-- which statements a request ran, for the account of what its reply rests on
pub data Note : Type 0 where
  Nothing : Note
  Began : Note
  Inside : (name : List ℕ) (statements : List Statement) → Note
  Outside : (name : List ℕ) (statements : List Statement) → Note

-- what a request does outside the sessions, which is answered by EMPTY: leadership is handed to a node; the connection
-- carries a peer's messages from then on; the node has another weight
pub data Effect : Type 0 where
  HandsOver : (id : ℕ) → Effect
  JoinsPeer : (id : ℕ) → Effect
  Weighs : (weight : ℕ) → Effect

-- a query that a reader runs: over this image, which is the newest one of the database when the query was asked
pub record Job : Type 0 where
  pub name : List ℕ
  pub image : Image
  pub statement : Statement

-- What comes of a request: a refusal, which changes nothing; nothing, if an answer of the engine is missing; the session
-- after it, with a reply at once, with entries to be appended in the view's term, or with a query that a reader runs; or an
-- effect outside the sessions.
pub data Turned : Type 0 where
  Refused : (cause : Cause) → Turned
  Lacks : Turned
  Answers : (session : Session) (reply : Reply) (note : Note) → Turned
  Proposes : (session : Session) (contents : List Content) (note : Note) → Turned
  Lends : (session : Session) (job : Job) → Turned
  Affects : (effect : Effect) → Turned
