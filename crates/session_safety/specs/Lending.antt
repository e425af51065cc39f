-- Queries that a life hands to readers, and the answers of the node's own engine that it uses.
use Rattle.std.specs.Prelude.{◌≡◌, ◌≢◌, ℕ, ◌==◌, false, List, [], ◌∷◌, ◌++◌, take, Option, Some, None, if◌then◌else◌}
use Rattle.sql_engine.specs.declared.kind.EngineKind.{EngineKind}
use Rattle.sql_engine.specs.Meanings.{Meaning}
use Rattle.sql_engine.specs.Replies.{Statement}
use Rattle.session_spec.specs.Engines.{Answer, Handed, used_for}
use Rattle.session_spec.specs.Entries.{Entry}
use Rattle.session_spec.specs.Machine.{Machine}
use Rattle.session_spec.specs.Requests.{on_request, handed, on_later, handed_later}
use Rattle.session_spec.specs.Sessions.{Lent, later_query, lent_query, may_ask, Gateway, View, Job, Turned, Refused, Lacks, Answers, Proposes, Lends, Affects}
use Rattle.session_safety.specs.Nodes.{Node, Standing, databases, view_of, started}
use Rattle.session_safety.specs.Life.{Event, Connect, Hangup, Call, Resume, Done, Apply, Lose, Lead, Serve, Append, Follow, undue, job_at, happens, AllFit}
use Rattle.session_safety.specs.Laws.{life, Starts}

-- ---- jobs

-- the job that is handed to a reader, with its connection, if a request comes to that
abbrev pub lends_by : ℕ → Turned → List (ℕ × Job)
lends_by conn (Refused cause) = []
lends_by conn Lacks = []
lends_by conn (Answers session reply note) = []
lends_by conn (Proposes session contents note) = []
lends_by conn (Lends session job) = (conn, job) ∷ []
lends_by conn (Affects effect) = []

-- What an event hands to a reader: a query that is handled. One that is run later than it was asked is never lent.
abbrev pub lent_by : Node → Event → List (ℕ × Job)
lent_by w (Call conn standing request answers) = if may_ask (w.gate.session conn) then lends_by conn (on_request (view_of w standing) (databases w) w.gate conn request answers) else []
lent_by w (Connect conn) = []
lent_by w (Hangup conn) = []
lent_by w (Resume conn standing answers) = []
lent_by w (Done conn answers) = []
lent_by w Apply = []
lent_by w (Lose term) = []
lent_by w (Lead term) = []
lent_by w Serve = []
lent_by w (Append contents) = []
lent_by w (Follow entries) = []

-- the jobs that these events hand to readers, in order
abbrev pub lent_in : Node → List Event → List (ℕ × Job)
lent_in w [] = []
lent_in w (e ∷ es) = lent_by w e ++ lent_in (happens w e) es

-- a query that is run later than it was asked is never lent
abbrev pub LatersStay : Type 0
LatersStay = (v : View) (m : Machine) (g : Gateway) (conn : ℕ) (statement : Statement) (answers : List Answer) → lends_by conn (on_later v m g conn statement answers) ≡ []

-- the last job of each connection, if these are handed out after those before
abbrev pub handed_on : (ℕ → Option Job) → List (ℕ × Job) → ℕ → Option Job
handed_on jobs [] conn = jobs conn
handed_on jobs (p ∷ more) conn = handed_on (λ other. if p.0 == other then Some p.1 else jobs other) more conn

abbrev pub no_jobs : ℕ → Option Job
no_jobs conn = None

-- whose query a reader has, has this job: the query over the image of the moment at which it was lent
abbrev pub JobsAre : (ℕ → Option Job) → Node → Type 0
JobsAre jobs w = (conn : ℕ) (s : Statement) → lent_query (w.gate.session conn).later ≡ Some s → jobs conn ≡ Some (job_at w conn s)

-- A query that a reader has was handed out, and its job is the last one of its connection.
abbrev pub JobsAreKnown : Meaning → EngineKind → Type 0
JobsAreKnown m kind =
    (log : List Entry) (applied term : ℕ) (es : List Event) → Starts log applied → AllFit m kind (started log applied term) es →
    JobsAre (handed_on no_jobs (lent_in (started log applied term) es)) (life log applied term es)

-- the connection's client stays, its reader isn't done, and doesn't give its query back
abbrev pub LeavesJob : ℕ → Event → Type 0
LeavesJob conn (Connect c) = Unit {0}
LeavesJob conn (Hangup c) = conn ≢ c
LeavesJob conn (Call c standing request answers) = Unit {0}
LeavesJob conn (Resume c standing answers) = conn ≢ c
LeavesJob conn (Done c answers) = conn ≢ c
LeavesJob conn Apply = Unit {0}
LeavesJob conn (Lose term) = Unit {0}
LeavesJob conn (Lead term) = Unit {0}
LeavesJob conn Serve = Unit {0}
LeavesJob conn (Append contents) = Unit {0}
LeavesJob conn (Follow entries) = Unit {0}

abbrev pub AllLeaveJob : ℕ → List Event → Type 0
AllLeaveJob conn [] = Unit {0}
AllLeaveJob conn (e ∷ es) = LeavesJob conn e × AllLeaveJob conn es

-- A reader has this job of the connection, whose client is there.
pub record HasJob (conn : ℕ) (s : Statement) (job : Job) (w : Node) : Type 0 where
  pub later : (w.gate.session conn).later ≡ Some (Lent s)
  pub here : (w.gate.session conn).hung ≡ false
  pub is : job_at w conn s ≡ job

-- It stays so over any of these events.
abbrev pub JobsStay : Meaning → EngineKind → Type 0
JobsStay m kind =
    (log : List Entry) (applied term : ℕ) (es fs : List Event) (conn : ℕ) (s : Statement) (job : Job) → Starts log applied → AllFit m kind (started log applied term) (es ++ fs) →
    AllLeaveJob conn fs → HasJob conn s job (life log applied term es) → HasJob conn s job (life log applied term (es ++ fs))

-- ---- answers

-- those of the answers that are used for what was handed over
abbrev pub uses : Option Handed → List Answer → List Answer
uses given answers = take (used_for given answers) answers

abbrev pub answers_later : Node → ℕ → Standing → List Answer → Option Statement → List Answer
answers_later w conn standing answers None = []
answers_later w conn standing answers (Some statement) = uses (handed_later (view_of w standing) (databases w) (undue w conn).gate conn statement) answers

-- The answers of the node's engine that an event uses: those to a request that is handled, and to a query that the node runs later than
-- it was asked. What a reader answered rests on answers of the reader's engine, which are not among these.
abbrev pub answers_by : Node → Event → List Answer
answers_by w (Call conn standing request answers) = if may_ask (w.gate.session conn) then uses (handed (view_of w standing) (databases w) w.gate conn request) answers else []
answers_by w (Resume conn standing answers) = answers_later w conn standing answers (later_query (w.gate.session conn).later)
answers_by w (Done conn answers) = []
answers_by w (Connect conn) = []
answers_by w (Hangup conn) = []
answers_by w Apply = []
answers_by w (Lose term) = []
answers_by w (Lead term) = []
answers_by w Serve = []
answers_by w (Append contents) = []
answers_by w (Follow entries) = []

-- the answers of the node's engine that these events use, in order
abbrev pub answers_in : Node → List Event → List Answer
answers_in w [] = []
answers_in w (e ∷ es) = answers_by w e ++ answers_in (happens w e) es
