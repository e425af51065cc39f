-- The turns of a script as a run of whole nodes.
use Rattle.std.specs.Prelude.{◌≢◌, Bool, true, false, Option, None, ◌≡◌, ℕ, List, [], ◌∷◌, ◌++◌, Some, slice_get}
use Rattle.std.specs.List.{AllByRecursion}
use Rattle.sql_engine.specs.declared.kind.EngineKind.{EngineKind}
use Rattle.sql_engine.specs.Meanings.{Meaning}
use Rattle.session_spec.specs.Engines.{Answer}
use Rattle.session_spec.specs.Sessions.{Reply}
use Rattle.raft_messages.specs.declared.message.RaftMessage.{RaftMessage}
use Rattle.raft_safety.specs.Members.{Setup}
use Rattle.store_laws.specs.Store.{Kept}
use Rattle.node_spec.specs.Nodes.{Node}
use Rattle.node_spec.specs.Steps.{Letter}
use Rattle.node_core.specs.Account.{Sends}
use Rattle.cluster_safety.specs.Acts.{NotStarted, NotJoined, asked}
use Rattle.cluster_safety.specs.Runs.{Place, Up, Down, Run, Event, nothing_kept, run_from}
use Rattle.node_meets_spec.specs.Steps.{Leads, used_in, AreAmong}
use Rattle.script_cluster.specs.Outcomes.{Standing, Outs, Ending, Steps, Starts, Stops, Fails, Unreadable, Doing, Timeout, Beat, Connect, Bytes, Hangup, Receive, Start, Turn, Does, Crashes}
pub use Rattle.script_cluster.specs.Knowing.{actor, turns_at, messages_of, messages_in}
use Rattle.script_safety.specs.Slots.{Seat, Rests, SlotShowsNode, SlotPath}

-- ---- turns

-- a message that a node receives is for it, and was sent
abbrev pub WasSent : List RaftMessage → ℕ → Doing → Type 0
WasSent sent n (Receive message) = (message.to ≡ n) × ((k : ℕ) × (slice_get sent k ≡ Some message))
WasSent sent n Timeout = Unit {0}
WasSent sent n Beat = Unit {0}
WasSent sent n (Connect conn) = Unit {0}
WasSent sent n (Bytes conn bytes) = Unit {0}
WasSent sent n (Hangup conn) = Unit {0}
WasSent sent n (Start voters) = Unit {0}

abbrev pub SentTo : List RaftMessage → Turn → Type 0
SentTo sent (Does n doing aim outcome) = WasSent sent n doing
SentTo sent (Crashes n pick) = Unit {0}

-- so of each turn, if these were sent before
abbrev pub AllSentTo : List RaftMessage → List Turn → Type 0
AllSentTo sent [] = Unit {0}
AllSentTo sent (turn ∷ turns) = SentTo sent turn × AllSentTo (sent ++ messages_in turn) turns

-- What came of a script's events at its nodes is what whole nodes do, over disks on which nothing was kept, with messages that were sent.
pub record NodesDo (m : Meaning) (kind : EngineKind) (setup : Setup) (turns : List Turn) : Type 0 where
  pub ends : ℕ → Seat
  pub paths : (n : ℕ) → SlotPath m kind setup n (Rests nothing_kept) (turns_at n turns) (ends n)
  pub sent : AllSentTo [] turns

-- ---- their run

-- A step: what it sends is of the run, and what it says to clients; its engine answered what the run's node uses, which is so.
pub record StepShows (answers : List Answer) (outs : Outs) (standing : Standing) (place : Place) (letters : List Letter)
    (replies : List (ℕ × Reply)) (used : List Answer) : Type 0 where
  pub node : Node
  pub up : place ≡ Up node
  pub stands : SlotShowsNode node standing
  pub messages : AreAmong outs.messages letters
  pub tells : Sends replies outs.replies
  pub answers_are : used ≡ answers

-- A start that ended well.
pub record StartShows (standing : Standing) (place : Place) : Type 0 where
  pub node : Node
  pub up : place ≡ Up node
  pub stands : SlotShowsNode node standing

-- the node is down
pub record IsDown (place : Place) : Type 0 where
  pub kept : Kept
  pub down : place ≡ Down kept

-- what it shows that an event ended so; that a start didn't load comes in no run
abbrev pub EndShows : List Answer → Ending → Place → List Letter → List (ℕ × Reply) → List Answer → Type 0
EndShows answers (Steps outs standing) place letters replies used = StepShows answers outs standing place letters replies used
EndShows answers (Starts kept standing) place letters replies used = StartShows standing place
EndShows answers (Stops keeps) place letters replies used = IsDown place
EndShows answers (Fails keeps) place letters replies used = IsDown place
EndShows answers Unreadable place letters replies used = ⊥

abbrev pub TurnShows : Turn → Place → List Letter → List (ℕ × Reply) → List Answer → Type 0
TurnShows (Does n doing aim outcome) place letters replies used = EndShows outcome.answers outcome.ending place letters replies used
TurnShows (Crashes n pick) place letters replies used = IsDown place

-- a start, the connection that comes, and the one on which bytes come
abbrev pub is_start : Turn → Bool
is_start (Does n (Start voters) aim outcome) = true
is_start (Does n Timeout aim outcome) = false
is_start (Does n Beat aim outcome) = false
is_start (Does n (Connect conn) aim outcome) = false
is_start (Does n (Bytes conn bytes) aim outcome) = false
is_start (Does n (Hangup conn) aim outcome) = false
is_start (Does n (Receive message) aim outcome) = false
is_start (Crashes n pick) = false

abbrev pub joins_by : Doing → Option ℕ
joins_by (Connect conn) = Some conn
joins_by Timeout = None
joins_by Beat = None
joins_by (Bytes conn bytes) = None
joins_by (Hangup conn) = None
joins_by (Receive message) = None
joins_by (Start voters) = None

abbrev pub asks_by : Doing → Option ℕ
asks_by (Bytes conn bytes) = Some conn
asks_by Timeout = None
asks_by Beat = None
asks_by (Connect conn) = None
asks_by (Hangup conn) = None
asks_by (Receive message) = None
asks_by (Start voters) = None

abbrev pub joins_of : Turn → Option ℕ
joins_of (Does n doing aim outcome) = joins_by doing
joins_of (Crashes n pick) = None

abbrev pub asks_of : Turn → Option ℕ
asks_of (Does n doing aim outcome) = asks_by doing
asks_of (Crashes n pick) = None

-- In these events a node starts, a connection comes, and one asks something, only as it does in the turn.
pub record TurnBrings (turn : Turn) (events : List Event) : Type 0 where
  pub starts : (k : ℕ) → (k ≡ actor turn → is_start turn ≡ false) → NotStarted k events
  pub joined : (k conn : ℕ) → (k ≡ actor turn → joins_of turn ≢ Some conn) → NotJoined k conn events
  pub asks : (k conn : ℕ) → (k ≡ actor turn → asks_of turn ≢ Some conn) → asked k conn events ≡ []

-- A turn is events of the run, whose clauses hold, and shows what they show.
pub record TurnRuns (m : Meaning) (kind : EngineKind) (setup : Setup) (r : Run) (turn : Turn) : Type 0 where
  pub place : Place
  pub letters : List Letter
  pub replies : List (ℕ × Reply)
  pub leads : Leads m kind setup r (actor turn) place letters replies
  pub shows : TurnShows turn place letters replies (used_in m kind setup r leads.events leads.hold)
  pub brings : TurnBrings turn leads.events

-- so of all turns, one after another
abbrev pub AreRun : Meaning → EngineKind → Setup → Run → List Turn → Type 0
AreRun m kind setup r [] = Unit {0}
AreRun m kind setup r (turn ∷ turns) = (one : TurnRuns m kind setup r turn) × AreRun m kind setup (run_from r one.leads.events) turns

-- the events of the run
abbrev pub events_of : (m : Meaning) (kind : EngineKind) (setup : Setup) (r : Run) (turns : List Turn) → AreRun m kind setup r turns → List Event
events_of m kind setup r [] is = []
events_of m kind setup r (turn ∷ turns) is = is.0.leads.events ++ events_of m kind setup (run_from r is.0.leads.events) turns is.1

-- ---- loads

-- A start found on its node's disk what loads. What doesn't has damaged entries (`Damaged`), a gap between its files (`Gap`), entries
-- without metadata (`NoMeta`), or a snapshot that isn't a node's (`Snapshot`); each of these four ends a start as `Unreadable`.
abbrev pub HasLoaded : Turn → Type 0
HasLoaded (Does n doing aim outcome) = outcome.ending ≢ Unreadable
HasLoaded (Crashes n pick) = Unit {0}

-- no load failed in these turns
abbrev pub AllLoad : List Turn → Type 0
AllLoad turns = AllByRecursion HasLoaded turns
