-- A run of whole nodes, each of which is a value or is down: what happens to them, and what each call has to show.
use Rattle.std.specs.Prelude.{◌≡◌, ℕ, cond, ◌==◌, Option, Some, None, Ok, Err, List, [], ◌∷◌, ◌++◌, map, slice_get}
use Rattle.sql_engine.specs.declared.kind.EngineKind.{EngineKind}
use Rattle.sql_engine.specs.Meanings.{Meaning}
use Rattle.session_spec.specs.Engines.{Answer, no_answer, runs, AllowsAll}
use Rattle.session_spec.specs.Requests.{job_reply}
use Rattle.session_spec.specs.Sessions.{Reply, Job}
use Rattle.session_safety.specs.Lending.{handed_on, no_jobs}
use Rattle.wire_msgs.specs.declared.request.Request.{Request}
use Rattle.raft_spec.specs.Node as raft
use Rattle.raft_safety.specs.Members.{Setup}
use Rattle.store_laws.specs.Store.{Kept, no_snap}
use Rattle.node_spec.specs.Nodes.{Node}
use Rattle.node_spec.specs.Steps.{Letter, Taken, CompletesStart, StopsInStart, StepHolds}

-- A node runs, or is down with what its disk keeps.
pub data Place : Type 0 where
  Up : (node : Node) → Place
  Down : (kept : Kept) → Place

-- What was said to a connection of a node.
pub record Spoken : Type 0 where
  pub node : ℕ
  pub conn : ℕ
  pub reply : Reply

-- The nodes by their ids; of each node that runs the job that was handed out last for each of its connections; every message ever made,
-- in order; and all that was said to clients.
pub record Run : Type 0 where
  pub places : ℕ → Place
  pub jobs : ℕ → ℕ → Option Job
  pub letters : List Letter
  pub said : List Spoken

-- What comes to a running node from outside. A message is any that was ever made, by its number. A reader answers the reply to the query
-- that was lent of a connection.
pub data Comes : Type 0 where
  Timeout : Comes
  Beat : Comes
  Yield : Comes
  Connect : (conn : ℕ) → Comes
  Asks : (conn : ℕ) (requests : List Request) → Comes
  Hangup : (conn : ℕ) → Comes
  Gets : (message : ℕ) → Comes
  Reads : (conn : ℕ) (reply : Reply) → Comes

-- What happens.
pub data Event : Type 0 where
  -- a node's call ends well: beside what comes, the node does these things in Raft's part; then it is this one, says this, and has handed
  -- these jobs to readers
  Goes : (node : ℕ) (came : Comes) (added : List raft.LocalEvent) (new : Node) (letters : List Letter) (replies : List (ℕ × Reply)) (jobs : List (ℕ × Job)) → Event
  -- a stop at a disk call, or a failing one, or out of memory: the node is down, and this is kept
  Fails : (node : ℕ) (came : Comes) (added : List raft.LocalEvent) (kept : Kept) → Event
  Crashes : (node : ℕ) → Event
  -- a start ends well, or fails or is stopped
  Starts : (node : ℕ) (servers : List raft.Server) (new : Node) → Event
  StartFails : (node : ℕ) (kept : Kept) → Event

-- ---- what a node takes in

-- a message is taken in by the node that it is for
abbrev pub taken_letter : ℕ → Option Letter → List raft.Input
taken_letter n None = []
taken_letter n (Some l) = cond (l.message.to == n) (raft.Receive l.message ∷ []) []

-- what reaches Raft's part
abbrev pub comes_in : ℕ → List Letter → Comes → List raft.Input
comes_in n letters Timeout = raft.Local raft.Timeout ∷ []
comes_in n letters Beat = raft.Local raft.Beat ∷ []
comes_in n letters Yield = raft.Local raft.Yield ∷ []
comes_in n letters (Connect conn) = []
comes_in n letters (Asks conn requests) = []
comes_in n letters (Hangup conn) = []
comes_in n letters (Gets k) = taken_letter n (slice_get letters k)
comes_in n letters (Reads conn reply) = []

abbrev pub bytes_of : Option Letter → List ℕ
bytes_of None = []
bytes_of (Some l) = l.bytes

-- the bytes of the snapshot that comes, if one does
abbrev pub bytes_in : List Letter → Comes → List ℕ
bytes_in letters Timeout = []
bytes_in letters Beat = []
bytes_in letters Yield = []
bytes_in letters (Connect conn) = []
bytes_in letters (Asks conn requests) = []
bytes_in letters (Hangup conn) = []
bytes_in letters (Gets k) = bytes_of (slice_get letters k)
bytes_in letters (Reads conn reply) = []

-- the connection that comes, if one does
abbrev pub joins_in : Comes → Option ℕ
joins_in Timeout = None
joins_in Beat = None
joins_in Yield = None
joins_in (Connect conn) = Some conn
joins_in (Asks conn requests) = None
joins_in (Hangup conn) = None
joins_in (Gets k) = None
joins_in (Reads conn reply) = None

-- what a reader answers, if one does
abbrev pub read_in : Comes → Option (ℕ × Reply)
read_in (Reads conn reply) = Some (conn, reply)
read_in Timeout = None
read_in Beat = None
read_in Yield = None
read_in (Connect conn) = None
read_in (Asks conn requests) = None
read_in (Hangup conn) = None
read_in (Gets k) = None

-- what a connection asks, if one does
abbrev pub asks_in : Comes → ℕ → List Request
asks_in Timeout conn = []
asks_in Beat conn = []
asks_in Yield conn = []
asks_in (Connect k) conn = []
asks_in (Asks k requests) conn = cond (k == conn) requests []
asks_in (Hangup k) conn = []
asks_in (Gets k) conn = []
asks_in (Reads k reply) conn = []

abbrev pub taken : Run → ℕ → Comes → List raft.LocalEvent → Taken
taken r n came added = record { inputs = comes_in n r.letters came ++ map raft.Local added; bytes = bytes_in r.letters came; joins = joins_in came; read = read_in came; asks = asks_in came }

-- ---- what happens

abbrev pub with_place : Run → ℕ → Place → (ℕ → Option Job) → List Letter → List Spoken → Run
with_place r n p jobs letters said = record { places = λ k. cond (k == n) p (r.places k); jobs = λ k. cond (k == n) jobs (r.jobs k); letters = r.letters ++ letters; said = r.said ++ said }

-- what the disk of a node has
abbrev pub kept_at : Place → Kept
kept_at (Up node) = node.kept
kept_at (Down kept) = kept

abbrev pub spoken : ℕ → ℕ × Reply → Spoken
spoken n p = record { node = n; conn = p.0; reply = p.1 }

-- The run after an event. Who is down, or starts, has handed out nothing.
abbrev pub happens : Run → Event → Run
happens r (Goes n came added new letters replies jobs) = with_place r n (Up new) (handed_on (r.jobs n) jobs) letters (map (spoken n) replies)
happens r (Fails n came added kept) = with_place r n (Down kept) no_jobs [] []
happens r (Crashes n) = with_place r n (Down (kept_at (r.places n))) no_jobs [] []
happens r (Starts n servers new) = with_place r n (Up new) no_jobs [] []
happens r (StartFails n kept) = with_place r n (Down kept) no_jobs [] []

abbrev pub run_from : Run → List Event → Run
run_from r [] = r
run_from r (e ∷ events) = run_from (happens r e) events

-- a disk on which nothing was kept
abbrev pub nothing_kept : Kept
nothing_kept = record { term = 0; vote = 0; snap = no_snap; log = record { first = 1; entries = [] } }

-- every node has kept nothing
abbrev pub first_run : Run
first_run = record { places = λ n. Down nothing_kept; jobs = λ n. no_jobs; letters = []; said = [] }

-- the run of these events
unfoldable pub run : List Event → Run
run events = run_from first_run events

-- ---- what the calls show

-- What a reader answers is what it makes of answers that its engine may give over the image of its job: the last one that was handed out
-- for its connection. If there was none, nothing comes of it.
abbrev pub TellsOf : Meaning → EngineKind → Option Job → Reply → Type 0
TellsOf m kind None reply = Unit {0}
TellsOf m kind (Some job) reply =
    (answers : List Answer) × AllowsAll m kind job.image (job.statement ∷ []) answers × (job_reply job (runs job.image no_answer (job.statement ∷ []) answers) ≡ Some reply)

abbrev pub ReadsJob : Meaning → EngineKind → Run → ℕ → Comes → Type 0
ReadsJob m kind r n (Reads conn reply) = TellsOf m kind (r.jobs n conn) reply
ReadsJob m kind r n Timeout = Unit {0}
ReadsJob m kind r n Beat = Unit {0}
ReadsJob m kind r n Yield = Unit {0}
ReadsJob m kind r n (Connect conn) = Unit {0}
ReadsJob m kind r n (Asks conn requests) = Unit {0}
ReadsJob m kind r n (Hangup conn) = Unit {0}
ReadsJob m kind r n (Gets k) = Unit {0}

-- A running node's call has met its clauses, for what came in, and with some answers that its engine answered in it; a crash may come at any
-- time; and a node that is down is started.
abbrev pub Holds : Meaning → EngineKind → Setup → Run → Event → Type 0
Holds m kind setup r (Goes n came added new letters replies jobs) =
    (old : Node) × (answers : List Answer) × (r.places n ≡ Up old) × ReadsJob m kind r n came
    × StepHolds {E = ℕ} m kind setup n old new new.kept (taken r n came added) (Ok (record { letters = letters; replies = replies; jobs = jobs; answers = answers }))
Holds m kind setup r (Fails n came added kept) =
    (old : Node) × (cause : ℕ) × (r.places n ≡ Up old) × ReadsJob m kind r n came × StepHolds m kind setup n old old kept (taken r n came added) (Err cause)
Holds m kind setup r (Crashes n) = Unit {0}
Holds m kind setup r (Starts n servers new) = (kept : Kept) × (r.places n ≡ Down kept) × CompletesStart setup kept new servers
Holds m kind setup r (StartFails n left) = (kept : Kept) × (r.places n ≡ Down kept) × StopsInStart setup kept left

-- so at each event
abbrev pub AllHold : Meaning → EngineKind → Setup → Run → List Event → Type 0
AllHold m kind setup r [] = Unit {0}
AllHold m kind setup r (e ∷ events) = Holds m kind setup r e × AllHold m kind setup (happens r e) events
