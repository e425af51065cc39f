-- What a turn of a node leads to, exactly: a relation of what decides before and after it, which is a function except for the answers
-- of the engine.
use Rattle.std.specs.Prelude.{◌≡◌, ◌⊎◌, ℕ, zero, suc, Bool, true, false, ◌&&◌, cond, nat_lt, List, [], ◌∷◌, ◌++◌, length, Option, Some, None, Result, Ok, Err}
use Rattle.wire_msgs.specs.declared.fault.MsgFault.{MsgFault}
use Rattle.wire_msgs.specs.declared.request.Request.{Request}
use Rattle.wire_msgs.specs.declared.response.Response.TheVariants.{Empty}
use Rattle.wire_msgs.specs.Reading.{request_of}
use Rattle.sql_engine.specs.declared.kind.EngineKind.{EngineKind}
use Rattle.sql_engine.specs.Meanings.{Meaning}
use Rattle.sql_engine.specs.Replies.{Statement}
use Rattle.session_spec.specs.Causes.{failure, unread_cause}
use Rattle.session_spec.specs.Engines.{Answer, AllowsFor, used_for}
use Rattle.session_spec.specs.Entries.{written}
use Rattle.session_spec.specs.Requests.{on_request, handed, on_later, handed_later, without_later, affected_by}
use Rattle.session_spec.specs.Seen.{entry_seen}
use Rattle.session_spec.specs.Sessions.{Gateway, HandsOver, JoinsPeer, Weighs, Turned, Refused, Lacks, Answers, Proposes, Lends, Affects}
use Rattle.session_spec.specs.Sessions.{later_query, responses_of}
use Rattle.session_gateway.specs.Later.{first_due}
use Rattle.client_sessions.specs.Clients.{Offer, joining, next_offer}
use Rattle.raft_spec.specs.Log.{Entry, term_at}
use Rattle.raft_spec.specs.Node.{Node, Server, Role, Leader, Candidate, Follower, Outcome, is_leader}
use Rattle.raft_spec.specs.Todo.{IsBatch}
use Rattle.raft_spec.specs.Compaction.{compacted_step}
use Rattle.raft_log.specs.Compacting.{is_due}
use Rattle.raft_membership.specs.Members.{configuration_in, last_servers}
use Rattle.raft_messages.specs.declared.message.RaftMessage.{RaftMessage}
use Rattle.raft_messages.specs.declared.message.Snapshot.{Snapshot}
use Rattle.raft_core.specs.Events.{input_of, offered}
use Rattle.raft_core.specs.declared.event.RaftEvent.{RaftEvent}
use Rattle.raft_core.specs.declared.event.RaftEvent.TheVariants as due
use Rattle.store_format.specs.FilesRead.{snap_kept}
use Rattle.store_laws.specs.Store.{Snap}
use Rattle.raft_on_disk.specs.Letters.{Tells}
use Rattle.raft_on_disk.specs.Mails.{all_posted, sent}
use Rattle.applied_state.specs.Content.{effect_of}
use Rattle.applied_state.specs.Snapshot.{NodeSnapshot, snapshot_bytes, snapshot_in, offered_to, contents_in}
use Rattle.node_core.specs.declared.event.Event.{Event}
use Rattle.node_core.specs.declared.event.Event.TheVariants as events
use Rattle.node_core.specs.declared.outs.StepOutputs.{StepOutputs}
use Rattle.node_core.specs.Plain.{plain_gate}
use Rattle.node_core.specs.Core.{Core, clients_at, looked, showing_servers, won, losing, ended, followed, are_others, replaced, entry_at, entry_done}
use Rattle.node_core.specs.Core.{dutiful, giving, replied, with_its, taking, idle, joined_by, hearing, hanging_up, closing_heard, silent}

-- ---- a step of Raft

abbrev pub step_of : Core → RaftEvent → Outcome
step_of w event = compacted_step w.me w.raft (input_of event)

-- the snapshot that is kept after it: one that came past the commit index, else the old one
abbrev pub snap_by : Core → RaftEvent → Snap
snap_by w event = cond (nat_lt w.raft.commit (step_of w event).node.snapshot.index) (snap_kept (offered event)) w.snap

-- A step has changed the log from this index on, if any, unless a snapshot came past the commit index.
abbrev pub ChangesFrom : Bool → Node → Node → Option ℕ → Type 0
ChangesFrom true s t batch = batch ≡ None
ChangesFrom false s t batch = IsBatch s.commit s.log t.log batch

-- Raft's step of an event was made, its messages are posted, and the log is another one from this index on; nothing else has followed.
pub record ExactStep (event : RaftEvent) (batch : Option ℕ) (w v : Core) : Type 0 where
  pub posted : List RaftMessage
  pub tells : Tells (step_of w event).out (snap_by w event) posted
  pub moved : ChangesFrom (nat_lt w.raft.commit (step_of w event).node.snapshot.index) w.raft (step_of w event).node batch
  pub is : v ≡ record w { raft = (step_of w event).node; snap = snap_by w event; mail = all_posted w.mail posted }

-- Raft was given servers, if any.
abbrev pub ExactTold : Option (List Server) → Core → Core → Type 0
ExactTold None w v = v ≡ w
ExactTold (Some servers) w v = (batch : Option ℕ) × ExactStep (due.Servers servers) batch w v

-- ---- an event from outside

abbrev pub is_follower : Role → Bool
is_follower Leader = false
is_follower Candidate = false
is_follower Follower = true

-- a node that follows is given the current servers, if they may be others
abbrev pub told_behind : Bool → Core → Option (List Server)
told_behind others w = cond (others && is_follower w.raft.role) (Some (last_servers w.members)) None

-- an event in which no snapshot comes
pub record ExactFollow (event : RaftEvent) (w v : Core) : Type 0 where
  pub batch : Option ℕ
  pub mid : Core
  pub steps : ExactStep event batch w mid
  pub last : Core
  pub tells : ExactTold (told_behind (are_others batch (ended mid)) (followed batch (ended mid))) (followed batch (ended mid)) last
  pub is : v ≡ looked (won last)

-- an event with a snapshot that is put in the place of entries
pub record ExactInstall (event : RaftEvent) (index : ℕ) (s : NodeSnapshot) (w v : Core) : Type 0 where
  pub batch : Option ℕ
  pub mid : Core
  pub steps : ExactStep event batch w mid
  pub last : Core
  pub tells : ExactTold (told_behind true (replaced index s (losing (ended mid)))) (replaced index s (losing (ended mid))) last
  pub is : v ≡ showing_servers last

-- the event puts a snapshot past the commit index in the place of entries
abbrev pub puts : RaftEvent → Core → Bool
puts (due.Message message) w = nat_lt w.raft.commit (step_of w (due.Message message)).node.snapshot.index
puts due.Timeout w = false
puts due.Beat w = false
puts due.Yield w = false
puts (due.Propose entries) w = false
puts (due.Transfer to) w = false
puts (due.Snapped at) w = false
puts (due.Servers servers) w = false

-- what the snapshot brings, if it can be taken; else its message counts as lost
abbrev pub brings : Core → Option Snapshot → Option NodeSnapshot
brings w None = None
brings w (Some snapshot) = offered_to w.files.names (snapshot_in snapshot.bytes)

abbrev pub index_of : Option Snapshot → ℕ
index_of None = 0
index_of (Some snapshot) = snapshot.index

abbrev pub OnOffered : RaftEvent → Option NodeSnapshot → Core → Core → Type 0
OnOffered event None w v = v ≡ w
OnOffered event (Some s) w v = ExactInstall event (index_of (offered event)) s w v

abbrev pub OnPut : RaftEvent → Bool → Core → Core → Type 0
OnPut event false w v = ExactFollow event w v
OnPut event true w v = OnOffered event (brings w (offered event)) w v

abbrev pub ExactRaft : RaftEvent → Core → Core → Type 0
ExactRaft event w v = OnPut event (puts event w) w v

-- ---- what the node gives Raft

-- a leader that proposes one change is told its servers first
abbrev pub change_in : Role → List Entry → Option (List Server)
change_in role [] = None
change_in role (entry ∷ []) = cond (is_leader role) (configuration_in entry) None
change_in role (entry ∷ other ∷ entries) = None

abbrev pub change_for : RaftEvent → Role → Option (List Server)
change_for (due.Propose entries) role = change_in role entries
change_for due.Timeout role = None
change_for due.Beat role = None
change_for due.Yield role = None
change_for (due.Message message) role = None
change_for (due.Transfer to) role = None
change_for (due.Snapped at) role = None
change_for (due.Servers servers) role = None

pub record ExactOwnStep (event : RaftEvent) (w v : Core) : Type 0 where
  pub mid : Core
  pub tells : ExactTold (change_for event w.raft.role) w mid
  pub batch : Option ℕ
  pub last : Core
  pub steps : ExactStep event batch mid last
  pub is : v ≡ looked (followed batch last)

-- ---- what comes of a client's request

-- What it came to, at its session's connection. What goes to a reader, and a connection that carries a peer's messages, are not told here.
abbrev pub TurnsTo : ℕ → Turned → Core → Core → Type 0
TurnsTo conn (Refused cause) w v = v ≡ replied conn (failure cause ∷ []) w
TurnsTo conn Lacks w v = ⊥
TurnsTo conn (Answers s reply note) w v = v ≡ replied conn (responses_of reply) (with_its conn s w)
TurnsTo conn (Proposes s contents note) w v = v ≡ giving (due.Propose (written w.view.term contents)) (with_its conn s w)
TurnsTo conn (Lends s job) w v = Unit {0}
TurnsTo conn (Affects (HandsOver id)) w v = v ≡ giving (due.Transfer id) (replied conn (Empty ∷ []) w)
TurnsTo conn (Affects (JoinsPeer id)) w v = Unit {0}
TurnsTo conn (Affects (Weighs weight)) w v = v ≡ replied conn (Empty ∷ []) (record w { sessions = affected_by w.sessions (Weighs weight) })

-- A request, by answers that the engine may give, all of which it uses.
pub record ExactRequest (m : Meaning) (kind : EngineKind) (conn : ℕ) (request : Request) (w v : Core) (answers : List Answer) : Type 0 where
  pub gate : Gateway
  pub plain : plain_gate gate ≡ w.sessions
  pub allowed : AllowsFor m kind (handed w.view w.files gate conn request) answers
  pub exact : used_for (handed w.view w.files gate conn request) answers ≡ length answers
  pub to : TurnsTo conn (on_request w.view w.files gate conn request answers) w v

-- A message, by what it reads as.
abbrev pub ExactMessage : Meaning → EngineKind → ℕ → Result Request MsgFault → Core → Core → List Answer → Type 0
ExactMessage m kind conn (Ok request) w v answers = ExactRequest m kind conn request w v answers
ExactMessage m kind conn (Err fault) w v answers = (v ≡ replied conn (failure (unread_cause fault) ∷ []) w) × (answers ≡ [])

-- the connection waits for no query, and gets a turn after the others
abbrev pub resuming : ℕ → Core → Core
resuming conn w = record w { sessions = without_later w.sessions conn; turns = w.turns ++ conn ∷ [] }

-- A query that waits for its answer is run.
pub record ExactWaitingQuery (m : Meaning) (kind : EngineKind) (conn : ℕ) (w v : Core) (answers : List Answer) : Type 0 where
  pub gate : Gateway
  pub plain : plain_gate gate ≡ w.sessions
  pub statement : Statement
  pub later : later_query (gate.session conn).later ≡ Some statement
  pub allowed : AllowsFor m kind (handed_later w.view w.files (without_later gate conn) conn statement) answers
  pub exact : used_for (handed_later w.view w.files (without_later gate conn) conn statement) answers ≡ length answers
  pub to : TurnsTo conn (on_later w.view w.files (without_later gate conn) conn statement answers) (resuming conn w) v

abbrev pub ExactWaitingQueries : Meaning → EngineKind → Option ℕ → Core → Core → List Answer → Type 0
ExactWaitingQueries m kind None w v answers = (v ≡ w) × (answers ≡ [])
ExactWaitingQueries m kind (Some conn) w v answers = ExactWaitingQuery m kind conn w v answers

-- ---- an entry

-- The next entry is applied; a query is run whose barrier it was; and a leader does what it owes.
pub record ExactEntry (m : Meaning) (kind : EngineKind) (w v : Core) (answers : List Answer) : Type 0 where
  pub entry : Entry
  pub is : entry_at w ≡ Some entry
  pub last : Core
  pub runs : ExactWaitingQueries m kind (first_due (entry_done (entry_seen entry).content w).sessions) (entry_done (entry_seen entry).content w) last answers
  pub owes : v ≡ dutiful (effect_of (entry_seen entry).content) last

-- ---- an own snapshot

-- one is due, and its servers are those of the configurations
abbrev pub MayCompact : Core → Type 0
MayCompact w = (is_due w.raft.snapshot w.applied ≡ true) × (w.members.servers ≡ w.servers)

abbrev pub own_snap : Core → Snap
own_snap w = record { index = w.applied; term = term_at w.raft.log w.applied; bytes = snapshot_bytes w.servers (contents_in w.files) }

abbrev pub own_event : Core → RaftEvent
own_event w = due.Snapped (record { index = w.applied; term = term_at w.raft.log w.applied })

pub record ExactCompaction (w v : Core) : Type 0 where
  pub posted : List RaftMessage
  pub tells : Tells (step_of w (own_event w)).out (own_snap w) posted
  pub is : v ≡ looked (record w { raft = (step_of w (own_event w)).node; snap = own_snap w; mail = all_posted w.mail posted })

-- ---- the first of what there is

-- what the node has given Raft itself, if anything is due
abbrev pub ExactDue : List RaftEvent → Core → Core → Bool → Type 0
ExactDue [] w v more = (v ≡ w) × (more ≡ false)
ExactDue (event ∷ rest) w v more = ExactOwnStep event (record w { due = rest }) v × (more ≡ true)

-- the connection whose bytes came; without one, nothing is left
abbrev pub OnHeard : Option ℕ → Core → Core → Bool → Type 0
OnHeard None w v more = (v ≡ w) × (more ≡ false)
OnHeard (Some conn) w v more = (v ≡ closing_heard conn w) × (more ≡ true)

abbrev pub OnSnapshot : Core → Core → Bool → List Answer → Type 0
OnSnapshot w v more answers =
    ((MayCompact w × ExactCompaction w v × (more ≡ true)) ⊎ ((MayCompact w → ⊥) × OnHeard w.heard w v more)) × (answers ≡ [])

abbrev pub OnOffer : Meaning → EngineKind → Option Offer → Core → Core → Bool → List Answer → Type 0
OnOffer m kind (Some offer) w v more answers = ExactMessage m kind offer.conn (request_of offer.message) (taking offer w) v answers × (more ≡ true)
OnOffer m kind None w v more answers = OnSnapshot (idle w) v more answers

abbrev pub OnQuery : Meaning → EngineKind → Option ℕ → Core → Core → Bool → List Answer → Type 0
OnQuery m kind (Some conn) w v more answers = ExactWaitingQuery m kind conn w v answers × (more ≡ true)
OnQuery m kind None w v more answers = OnOffer m kind (next_offer (clients_at w)) w v more answers

-- A turn where nothing is due at Raft and all that is committed is applied; and the same where no connection carries a peer's messages.
abbrev pub ExactAttend : Meaning → EngineKind → Core → Core → Bool → List Answer → Type 0
ExactAttend m kind w v more answers = OnQuery m kind (first_due w.sessions) w v more answers

abbrev pub ExactAttends : Meaning → EngineKind → Core → Core → Bool → List Answer → Type 0
ExactAttends m kind w v more answers = w.links ≡ [] → ExactAttend m kind w v more answers

abbrev pub OnCommit : Meaning → EngineKind → Bool → Core → Core → Bool → List Answer → Type 0
OnCommit m kind true w v more answers = ExactEntry m kind w v answers × (more ≡ true)
OnCommit m kind false w v more answers = ExactAttend m kind w v more answers

abbrev pub OnDue : Meaning → EngineKind → List RaftEvent → Core → Core → Bool → List Answer → Type 0
OnDue m kind (event ∷ rest) w v more answers = ExactOwnStep event (record w { due = rest }) v × (more ≡ true) × (answers ≡ [])
OnDue m kind [] w v more answers = OnCommit m kind (nat_lt w.applied w.raft.commit) w v more answers

-- A turn: the first of what there is was done, by these answers of the engine; or nothing was left.
abbrev pub ExactTurn : Meaning → EngineKind → Core → Core → Bool → List Answer → Type 0
ExactTurn m kind w v more answers = OnDue m kind w.due w v more answers

-- a turn where no connection carries a peer's messages
abbrev pub UnlinkedTurn : Meaning → EngineKind → Core → Core → Bool → List Answer → Type 0
UnlinkedTurn m kind w v more answers = w.links ≡ [] → ExactTurn m kind w v more answers

-- This many turns after which something is left, and then one after which nothing is.
abbrev pub RunsIn : ℕ → Meaning → EngineKind → Core → Core → List Answer → Type 0
RunsIn zero m kind w v answers = UnlinkedTurn m kind w v false answers
RunsIn (suc turns) m kind w v answers =
    (mid : Core) × (first : List Answer) × (rest : List Answer) × (answers ≡ first ++ rest) × UnlinkedTurn m kind w mid true first ×
    RunsIn turns m kind mid v rest

-- Turns up to one after which nothing is left.
pub record ExactTurns (m : Meaning) (kind : EngineKind) (w v : Core) (answers : List Answer) : Type 0 where
  pub turns : ℕ
  pub are : RunsIn turns m kind w v answers

-- ---- a step

-- its event is given to clients, or happens at Raft; what a reader answers is not told here
abbrev pub ExactBegin : Event → Core → Core → List Answer → Type 0
ExactBegin events.Timeout w v answers = ExactRaft due.Timeout w v × (answers ≡ [])
ExactBegin events.Beat w v answers = ExactRaft due.Beat w v × (answers ≡ [])
ExactBegin events.Yield w v answers = ExactRaft due.Yield w v × (answers ≡ [])
ExactBegin (events.Peer message) w v answers = ExactRaft (due.Message message) w v × (answers ≡ [])
ExactBegin (events.Connect conn) w v answers = (w.links ≡ [] → v ≡ joined_by (joining w.sessions conn) conn w) × (answers ≡ [])
ExactBegin (events.Bytes conn bytes) w v answers = (w.links ≡ [] → v ≡ hearing conn bytes w) × (answers ≡ [])
ExactBegin (events.Hangup conn) w v answers = (w.links ≡ [] → v ≡ hanging_up conn w) × (answers ≡ [])
ExactBegin (events.ReadDone conn read) w v answers = Unit {0}

-- it is said what was noted, and nothing is left to say
pub record SaysOf (last v : Core) (outs : StepOutputs) : Type 0 where
  pub replies : outs.replies.items ≡ last.replies
  pub closed : outs.closed.items ≡ last.closed
  pub messages : outs.messages.items ≡ sent last.mail
  pub is : v ≡ silent last

-- A step of an event that ended well, by these answers of the engine.
pub record StepsExactly (m : Meaning) (kind : EngineKind) (event : Event) (w v : Core) (outs : StepOutputs) (answers : List Answer) : Type 0 where
  pub first : List Answer
  pub rest : List Answer
  pub all : answers ≡ first ++ rest
  pub mid : Core
  pub begins : ExactBegin event w mid first
  pub last : Core
  pub runs : ExactTurns m kind mid last rest
  pub says : SaysOf last v outs
