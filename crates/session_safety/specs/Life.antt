-- The life of a node since it was started: what may happen at it, and what is said then.
use Rattle.std.specs.Prelude.{◌≡◌, ℕ, suc, ◌<◌, ◌≤◌, max, Bool, true, false, ◌==◌, List, [], ◌∷◌, ◌++◌, length, take, map, Option, Some, None, if◌then◌else◌}
use Rattle.log_commands.specs.declared.command.Command.{Command}
use Rattle.log_commands.specs.declared.command.Command.TheVariants.{OpenDb, Frames, Undo, Checkpoint}
use Rattle.wire_msgs.specs.declared.request.Request.{Request}
use Rattle.sql_engine.specs.declared.kind.EngineKind.{EngineKind}
use Rattle.sql_engine.specs.Replies.{Statement}
use Rattle.sql_engine.specs.Meanings.{Meaning}
use Rattle.session_spec.specs.Entries.{Content, Does, Configures, Other, Entry, entries_of}
use Rattle.session_spec.specs.Machine.{base_at, image_at}
use Rattle.session_spec.specs.Engines.{Answer, no_answer, runs, AllowsAll, AllowsFor}
use Rattle.session_spec.specs.Sessions.{Reply, Refusal, Single, Rows, result, empty, change_reply, db, Kind, Opening, Configuring, Writing, Committing, Querying, Flight, later_query, lent_query, Session, may_ask, Job, Note, Nothing, Began, Inside, Outside, Turned, Refused, Lacks, Answers, Proposes, Lends, Affects}
use Rattle.session_spec.specs.Requests.{job_reply, on_request, handed, on_later, handed_later, with_session, without_later, affected_by}
use Rattle.session_spec.specs.Events.{on_applied, on_lost, told_lost, on_hangup, connects, connected}
use Rattle.session_safety.specs.Nodes.{Query, Commit, Said, Trail, Node, Standing, databases, view_of, unseen}
use Rattle.session_safety.specs.Woven.{Woven}

-- What may happen: a connection comes, or goes; a request is handled, with the answers of an engine; a query that is yet to be
-- answered is run, after its barrier or as a reader gave it back; a reader has run one, with the engine's answer; the next entry
-- is applied; leadership is lost, or won, in a term; the node begins to serve; a leader appends its own entries, as its first
-- one, an Undo or a Checkpoint; and if others lead they change the log past what is applied.
pub data Event : Type 0 where
  Connect : (conn : ℕ) → Event
  Hangup : (conn : ℕ) → Event
  Call : (conn : ℕ) (standing : Standing) (request : Request) (answers : List Answer) → Event
  Resume : (conn : ℕ) (standing : Standing) (answers : List Answer) → Event
  Done : (conn : ℕ) (answers : List Answer) → Event
  Apply : Event
  Lose : (term : ℕ) → Event
  Lead : (term : ℕ) → Event
  Serve : Event
  Append : (contents : List Content) → Event
  Follow : (entries : List Entry) → Event

-- ---- what replies rest on

abbrev pub sole : List Statement → Statement
sole [] = record { text = []; params = [] }
sole (s ∷ ss) = s

-- rows rest on a query
abbrev pub query_for : Reply → List ℕ → ℕ → List Statement → List Statement → ℕ → Option Query
query_for (Refusal cause) name at before ss seen = None
query_for (Single response) name at before ss seen = None
query_for (Rows answer) name at before ss seen = Some (record { name = name; at = at; before = before; statement = sole ss; answer = answer; seen = seen })

abbrev pub query_by : ℕ → Trail → Reply → Note → Option Query
query_by applied t r Nothing = query_for r [] 0 [] [] t.seen
query_by applied t r Began = query_for r [] 0 [] [] t.seen
query_by applied t r (Inside name ss) = query_for r name t.at t.ran ss t.seen
query_by applied t r (Outside name ss) = query_for r name applied [] ss t.seen

-- what is known of a connection after an answer at once
abbrev pub answered_trail : ℕ → Trail → Note → Trail
answered_trail applied t Nothing = t
answered_trail applied t Began = record t { at = applied; ran = [] }
answered_trail applied t (Inside name ss) = record { seen = max t.seen t.at; at = t.at; ran = t.ran ++ ss }
answered_trail applied t (Outside name ss) = record { seen = max t.seen applied; at = applied; ran = ss }

-- the same after a proposal, which is answered later
abbrev pub proposed_trail : ℕ → Trail → Note → Trail
proposed_trail applied t Nothing = t
proposed_trail applied t Began = t
proposed_trail applied t (Inside name ss) = t
proposed_trail applied t (Outside name ss) = record t { at = applied; ran = ss }

-- ---- requests

-- a reply that rests on nothing and waited for nothing
abbrev pub tells : ℕ → Reply → Said
tells conn reply = record { conn = conn; reply = reply; query = None; commit = None; opened = None; index = 0; term = 0 }

abbrev pub says : Node → List Said → Node
says w more = record w { said = w.said ++ more }

-- what comes of a request
abbrev pub called : Node → ℕ → Turned → Node
called w conn (Refused cause) = says w (tells conn (Refusal cause) ∷ [])
called w conn Lacks = w
called w conn (Answers s reply note) = record w {
  gate = with_session w.gate conn s;
  trail = λ other. if other == conn then answered_trail w.applied (w.trail conn) note else w.trail other;
  said = w.said ++ record { conn = conn; reply = reply; query = query_by w.applied (w.trail conn) reply note; commit = None; opened = None; index = 0; term = 0 } ∷ [];
}
called w conn (Proposes s contents note) = record w {
  log = w.log ++ entries_of w.term contents;
  gate = with_session w.gate conn s;
  trail = λ other. if other == conn then proposed_trail w.applied (w.trail conn) note else w.trail other;
}
called w conn (Lends s job) = record w {
  gate = with_session w.gate conn s;
  trail = λ other. if other == conn then proposed_trail w.applied (w.trail conn) (Outside job.name (job.statement ∷ [])) else w.trail other;
}
called w conn (Affects effect) = record w { gate = affected_by w.gate effect; said = w.said ++ tells conn empty ∷ [] }

-- ---- entries that are applied

abbrev pub commit_of : Flight → List Statement → Commit
commit_of f ss = record { name = f.name; first = f.first; last = f.last; term = f.term; statements = ss }

-- what is said when a proposal's last entry is applied
abbrev pub said_landed : ℕ → Trail → Flight → Kind → List Said
said_landed conn t f Opening = record { conn = conn; reply = db; query = None; commit = None; opened = Some f.name; index = f.last; term = f.term } ∷ []
said_landed conn t f (Configuring short) = record { conn = conn; reply = change_reply short; query = None; commit = None; opened = None; index = f.last; term = f.term } ∷ []
said_landed conn t f (Writing reply) = record { conn = conn; reply = reply; query = query_for reply f.name t.at [] t.ran t.seen; commit = Some (commit_of f t.ran); opened = None; index = f.last; term = f.term } ∷ []
said_landed conn t f Committing = record { conn = conn; reply = result 0; query = None; commit = Some (commit_of f t.ran); opened = None; index = f.last; term = f.term } ∷ []
said_landed conn t f (Querying statement) = []

abbrev pub said_by : ℕ → ℕ → Trail → Bool → Option Flight → List Said
said_by index conn t hung None = []
said_by index conn t hung (Some f) = if f.last == index then (if hung then [] else said_landed conn t f f.kind) else []

abbrev pub said_applied : ℕ → (ℕ → Trail) → (ℕ → Session) → List ℕ → List Said
said_applied index trail session [] = []
said_applied index trail session (conn ∷ conns) =
    said_by index conn (trail conn) (session conn).hung (session conn).flight ++ said_applied index trail session conns

abbrev pub landed_trail : ℕ → Trail → Kind → Trail
landed_trail index t Opening = t
landed_trail index t (Configuring short) = t
landed_trail index t (Writing reply) = record t { seen = max t.seen index }
landed_trail index t Committing = record t { seen = max t.seen index }
landed_trail index t (Querying statement) = t

abbrev pub trail_by : ℕ → Trail → Option Flight → Trail
trail_by index t None = t
trail_by index t (Some f) = if f.last == index then landed_trail index t f.kind else t

-- ---- a query that waits for its answer

-- the node where the connection has none
abbrev pub undue : Node → ℕ → Node
undue w conn = record w { gate = without_later w.gate conn }

-- what comes of the query where the node runs it, over the newest image
abbrev pub outcome_later : Node → ℕ → Standing → Statement → List Answer → Turned
outcome_later w conn standing statement answers = on_later (view_of w standing) (databases w) (undue w conn).gate conn statement answers

-- the node after it; if an answer lacks, the query waits on
abbrev pub resumed_by : Node → ℕ → Turned → Node
resumed_by w conn (Refused cause) = called (undue w conn) conn (Refused cause)
resumed_by w conn Lacks = w
resumed_by w conn (Answers s reply note) = called (undue w conn) conn (Answers s reply note)
resumed_by w conn (Proposes s contents note) = called (undue w conn) conn (Proposes s contents note)
resumed_by w conn (Lends s job) = called (undue w conn) conn (Lends s job)
resumed_by w conn (Affects effect) = called (undue w conn) conn (Affects effect)

abbrev pub resumed : Node → ℕ → Standing → List Answer → Option Statement → Node
resumed w conn standing answers None = w
resumed w conn standing answers (Some statement) = resumed_by w conn (outcome_later w conn standing statement answers)

-- what a reader has: the query, over the image of the index at which it was lent
abbrev pub job_at : Node → ℕ → Statement → Job
job_at w conn statement = record { name = (w.gate.session conn).database; image = image_at w.log (w.trail conn).at (w.gate.session conn).database; statement = statement }

-- what it tells
abbrev pub told_at : Node → ℕ → Statement → List Answer → Option Reply
told_at w conn statement answers = job_reply (job_at w conn statement) (runs (job_at w conn statement).image no_answer (statement ∷ []) answers)

-- a reader's reply rests on that image, which its connection has seen then
abbrev pub said_read : Node → ℕ → Statement → Reply → Said
said_read w conn statement reply = record {
  conn = conn;
  reply = reply;
  query = query_for reply (w.gate.session conn).database (w.trail conn).at [] (statement ∷ []) (w.trail conn).seen;
  commit = None;
  opened = None;
  index = 0;
  term = 0;
}

abbrev pub read_trail : Trail → Trail
read_trail t = record t { seen = max t.seen t.at }

-- the node after a reader answered a reply, or gave its job back without one
abbrev pub read_by : Node → ℕ → Statement → Option Reply → Node
read_by w conn statement None = w
read_by w conn statement (Some reply) = record w {
  gate = without_later w.gate conn;
  trail = λ other. if other == conn then read_trail (w.trail conn) else w.trail other;
  said = w.said ++ said_read w conn statement reply ∷ [];
}

abbrev pub read : Node → ℕ → List Answer → Option Statement → Node
read w conn answers None = w
read w conn answers (Some statement) = read_by w conn statement (told_at w conn statement answers)

-- ---- events

abbrev pub told_all : List (ℕ × Reply) → List Said
told_all replies = map (λ (p : ℕ × Reply). tells p.0 p.1) replies

-- the node where a connection that gets a session came
abbrev pub joined : Node → ℕ → Node
joined w conn = record w { gate = connected w.gate conn; trail = λ other. if other == conn then unseen else w.trail other }

-- the node after an event
unfoldable pub happens : Node → Event → Node
happens w (Connect conn) = if connects w.gate conn then joined w conn else w
happens w (Hangup conn) = record w { gate = on_hangup w.gate conn }
happens w (Call conn standing request answers) =
    if may_ask (w.gate.session conn) then called w conn (on_request (view_of w standing) (databases w) w.gate conn request answers) else w
happens w (Resume conn standing answers) = resumed w conn standing answers (later_query (w.gate.session conn).later)
happens w (Done conn answers) = read w conn answers (lent_query (w.gate.session conn).later)
happens w Apply = record w {
  applied = suc w.applied;
  gate = on_applied (suc w.applied) w.gate;
  trail = λ conn. trail_by (suc w.applied) (w.trail conn) (w.gate.session conn).flight;
  said = w.said ++ said_applied (suc w.applied) w.trail w.gate.session w.gate.conns;
}
happens w (Lose term) = record w { term = term; leads = false; serving = false; gate = on_lost w.gate; said = w.said ++ told_all (told_lost w.gate) }
happens w (Lead term) = record w { term = term; leads = true; serving = false }
happens w Serve = record w { serving = true }
happens w (Append contents) = record w { log = w.log ++ entries_of w.term contents }
happens w (Follow entries) = record w { log = take w.applied w.log ++ entries }

abbrev pub run_from : Node → List Event → Node
run_from w [] = w
run_from w (e ∷ es) = run_from (happens w e) es

-- ---- which events may happen

-- entries of a leader that have no pages; a serving one appends no Undo
abbrev pub IsPlainCommand : Bool → Command → Type 0
IsPlainCommand serving (OpenDb name) = Unit {0}
IsPlainCommand serving (Frames name tx truncate commit pages) = ⊥
IsPlainCommand serving (Undo tx) = serving ≡ false
IsPlainCommand serving (Checkpoint name) = Unit {0}

abbrev pub IsPlain : Bool → Content → Type 0
IsPlain serving (Does command) = IsPlainCommand serving command
IsPlain serving (Configures servers) = Unit {0}
IsPlain serving Other = Unit {0}

abbrev pub ArePlain : Bool → List Content → Type 0
ArePlain serving [] = Unit {0}
ArePlain serving (content ∷ contents) = IsPlain serving content × ArePlain serving contents

-- the answers are ones that the engine may give to a query that is run later than it was asked
abbrev pub AllowsLater : Meaning → EngineKind → Node → ℕ → Standing → List Answer → Option Statement → Type 0
AllowsLater m kind w conn standing answers None = Unit {0}
AllowsLater m kind w conn standing answers (Some statement) =
    AllowsFor m kind (handed_later (view_of w standing) (databases w) (undue w conn).gate conn statement) answers

-- the same for a reader's answers
abbrev pub AllowsRead : Meaning → EngineKind → Node → ℕ → List Answer → Option Statement → Type 0
AllowsRead m kind w conn answers None = Unit {0}
AllowsRead m kind w conn answers (Some statement) = AllowsAll m kind (job_at w conn statement).image (statement ∷ []) answers

-- What the node sees to, and what is asked of the engine and of others' entries. A node begins to serve when all of its log
-- is applied and no pages are pending.
abbrev pub Fits : Meaning → EngineKind → Node → Event → Type 0
Fits m kind w (Connect conn) = Unit {0}
Fits m kind w (Hangup conn) = Unit {0}
Fits m kind w (Call conn standing request answers) =
    may_ask (w.gate.session conn) ≡ true → AllowsFor m kind (handed (view_of w standing) (databases w) w.gate conn request) answers
Fits m kind w (Resume conn standing answers) = AllowsLater m kind w conn standing answers (later_query (w.gate.session conn).later)
Fits m kind w (Done conn answers) = AllowsRead m kind w conn answers (lent_query (w.gate.session conn).later)
Fits m kind w Apply = w.applied < length w.log
Fits m kind w (Lose term) = w.term < term
Fits m kind w (Lead term) = (w.leads ≡ false) × (w.term ≤ term)
Fits m kind w Serve = (w.leads ≡ true) × (w.applied ≡ length w.log) × ((name : List ℕ) → (base_at w.log w.applied name).pending ≡ None)
Fits m kind w (Append contents) = (w.leads ≡ true) × ArePlain w.serving contents
Fits m kind w (Follow entries) = (w.leads ≡ false) × Woven (take w.applied w.log ++ entries)

-- each event of the list fits where it happens
abbrev pub AllFit : Meaning → EngineKind → Node → List Event → Type 0
AllFit m kind w [] = Unit {0}
AllFit m kind w (e ∷ es) = Fits m kind w e × AllFit m kind (happens w e) es
