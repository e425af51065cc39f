-- Which request a reply answers, and that what it rests on is what this request asked.
use Rattle.std.specs.Prelude.{◌≡◌, ℕ, Bool, true, false, ◌&&◌, ◌==◌, List, [], ◌∷◌, ◌++◌, Option, Some, None, if◌then◌else◌}
use Rattle.wire_msgs.specs.declared.request.Request.{Request}
use Rattle.sql_engine.specs.declared.kind.EngineKind.{EngineKind}
use Rattle.sql_engine.specs.Meanings.{Meaning}
use Rattle.sql_engine.specs.Replies.{Statement}
use Rattle.session_spec.specs.Entries.{Entry}
use Rattle.session_spec.specs.Asking.{asked}
use Rattle.session_spec.specs.Engines.{Answer}
use Rattle.session_spec.specs.Sessions.{later_query, Session, in_tx, is_busy, may_ask, Note, Nothing, Began, Inside, Outside, Turned, Refused, Lacks, Answers, Proposes, Lends, Affects}
use Rattle.session_spec.specs.Requests.{statements_asked, on_request}
use Rattle.session_safety.specs.Nodes.{Query, Commit, Said, Node, Standing, databases, view_of, started}
use Rattle.session_safety.specs.Life.{Event, Connect, Hangup, Call, Resume, Done, Apply, Lose, Lead, Serve, Append, Follow, outcome_later, happens, run_from, AllFit}
use Rattle.session_safety.specs.Laws.{life, Starts, NoneComes}

-- ---- statements

-- the statements that a request asks an engine to run
abbrev pub asks_for : Node → ℕ → Standing → Request → List Statement
asks_for w conn standing request = statements_asked (asked (view_of w standing) (databases w) w.gate conn request)

-- what comes of a request
abbrev pub outcome : Node → ℕ → Standing → Request → List Answer → Turned
outcome w conn standing request answers = on_request (view_of w standing) (databases w) w.gate conn request answers

-- the statements of the open transaction so far; none if none is open
abbrev pub transaction_ran : Node → ℕ → List Statement
transaction_ran w conn = if in_tx (w.gate.session conn) then (w.trail conn).ran else []

-- what an answered request with these statements makes of those of the transaction
abbrev pub runs_on : List Statement → List Statement → Note → List Statement
runs_on ran own Nothing = ran
runs_on ran own Began = []
runs_on ran own (Inside name ss) = ran ++ own
runs_on ran own (Outside name ss) = []

-- and one of which this comes: a refused one adds nothing, nor does one that waits
abbrev pub ran_by : List Statement → List Statement → Turned → List Statement
ran_by ran own (Refused cause) = ran
ran_by ran own Lacks = ran
ran_by ran own (Answers session reply note) = runs_on ran own note
ran_by ran own (Proposes session contents note) = ran
ran_by ran own (Lends session job) = ran
ran_by ran own (Affects effect) = ran

-- and a query that is run later
abbrev pub ran_later : List Statement → Node → ℕ → Standing → List Answer → Option Statement → List Statement
ran_later ran w conn standing answers None = ran
ran_later ran w conn standing answers (Some statement) = ran_by ran (statement ∷ []) (outcome_later w conn standing statement answers)

abbrev pub ran_after : ℕ → Node → Event → List Statement
ran_after conn w (Call other standing request answers) = if other == conn && may_ask (w.gate.session other) then ran_by (transaction_ran w other) (asks_for w other standing request) (outcome w other standing request answers) else transaction_ran w conn
ran_after conn w (Connect other) = transaction_ran w conn
ran_after conn w (Hangup other) = transaction_ran w conn
ran_after conn w (Resume other standing answers) =
    if other == conn then ran_later (transaction_ran w other) w other standing answers (later_query (w.gate.session other).later) else transaction_ran w conn
ran_after conn w (Done other answers) = transaction_ran w conn
ran_after conn w Apply = transaction_ran w conn
ran_after conn w (Lose term) = transaction_ran w conn
ran_after conn w (Lead term) = transaction_ran w conn
ran_after conn w Serve = transaction_ran w conn
ran_after conn w (Append contents) = transaction_ran w conn
ran_after conn w (Follow entries) = transaction_ran w conn

-- A transaction's statements are those that its requests ask for, in order, except for requests that are refused. BEGIN, COMMIT
-- and END ask for none.
abbrev pub TransactionsRun : Type 0
TransactionsRun =
    (w : Node) (conn : ℕ) (e : Event) → transaction_ran (happens w e) conn ≡ (if in_tx ((happens w e).gate.session conn) then ran_after conn w e else [])

-- ---- requests that are handled

-- A request that is handled: the statements that the open transaction had run before it, and those that it asks for itself.
pub record Handled : Type 0 where
  pub request : Request
  pub before : List Statement
  pub own : List Statement

-- something comes of it: no answer of the engine lacks
abbrev pub comes : Turned → Bool
comes (Refused cause) = true
comes Lacks = false
comes (Answers session reply note) = true
comes (Proposes session contents note) = true
comes (Lends session job) = true
comes (Affects effect) = true

-- the request of the connection that is handled by this event, if one is
abbrev pub handled_by : ℕ → Node → Event → List Handled
handled_by conn w (Call other standing request answers) = if other == conn && (may_ask (w.gate.session other) && comes (outcome w other standing request answers)) then record { request = request; before = transaction_ran w other; own = asks_for w other standing request } ∷ [] else []
handled_by conn w (Connect other) = []
handled_by conn w (Hangup other) = []
handled_by conn w (Resume other standing answers) = []
handled_by conn w (Done other answers) = []
handled_by conn w Apply = []
handled_by conn w (Lose term) = []
handled_by conn w (Lead term) = []
handled_by conn w Serve = []
handled_by conn w (Append contents) = []
handled_by conn w (Follow entries) = []

-- those that are handled in these events, in order
abbrev pub handled_in : ℕ → Node → List Event → List Handled
handled_in conn w [] = []
handled_in conn w (e ∷ es) = handled_by conn w e ++ handled_in conn (happens w e) es

-- ---- replies

-- the replies to a connection, in order
abbrev pub said_to : ℕ → List Said → List Said
said_to conn [] = []
said_to conn (x ∷ xs) = if x.conn == conn then x ∷ said_to conn xs else said_to conn xs

-- a query is the one statement of the request, after those of its transaction
abbrev pub QueryFrom : Handled → Option Query → Type 0
QueryFrom h None = Unit {0}
QueryFrom h (Some q) = (q.before ≡ h.before) × (h.own ≡ q.statement ∷ [])

-- a commit represents the statements of the transaction and those of the request
abbrev pub CommitFrom : Handled → Option Commit → Type 0
CommitFrom h None = Unit {0}
CommitFrom h (Some c) = c.statements ≡ h.before ++ h.own

-- What a reply rests on is what the request asked.
pub record IsReplyTo (h : Handled) (x : Said) : Type 0 where
  pub query : QueryFrom h x.query
  pub commit : CommitFrom h x.commit

-- The replies are those to the first requests, one by one, and the others are owed theirs.
abbrev pub ArePaired : List Said → List Handled → List Handled → Type 0
ArePaired [] hs owed = hs ≡ owed
ArePaired (x ∷ xs) [] owed = ⊥
ArePaired (x ∷ xs) (h ∷ hs) owed = IsReplyTo h x × ArePaired xs hs owed

-- a reply is owed exactly if a proposal is pending, or a query waits for its answer
abbrev pub Owes : Session → List Handled → Type 0
Owes s [] = is_busy s ≡ false
Owes s (h ∷ []) = is_busy s ≡ true
Owes s (h ∷ k ∷ hs) = ⊥

-- the connection has a session and isn't hung up
pub record IsOpen (s : Session) : Type 0 where
  pub there : s.there ≡ true
  pub here : s.hung ≡ false

-- From one moment to another the replies to a connection are those to the requests that are handled, one by one, each with what
-- it asked.
pub record RepliesTo (conn : ℕ) (w : Node) (es : List Event) : Type 0 where
  pub more : List Said
  pub said : (run_from w es).said ≡ w.said ++ more
  pub owed : List Handled
  pub paired : ArePaired (said_to conn more) (handled_in conn w es) owed
  pub owes : Owes ((run_from w es).gate.session conn) owed

-- This holds from each moment at which it is owed nothing, as the one at which it came, up to each at which it is
-- still open.
abbrev pub RequestsAreAnswered : Meaning → EngineKind → Type 0
RequestsAreAnswered m kind =
    (log : List Entry) (applied term : ℕ) (es fs : List Event) (conn : ℕ) → Starts log applied → AllFit m kind (started log applied term) (es ++ fs) → NoneComes conn fs →
    is_busy ((life log applied term es).gate.session conn) ≡ false → IsOpen ((life log applied term (es ++ fs)).gate.session conn) → RepliesTo conn (life log applied term es) fs
