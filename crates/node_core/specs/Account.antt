-- What a step of a node makes: acts of the rules of nodes, one after another, each from rest to rest, and what they say. The first act
-- is that of the event; each message of a peer that came on a connection begins one of its own, and so does each own snapshot.
use Rattle.std.specs.Prelude.{◌≡◌, ◌≢◌, ◌⊎◌, ℕ, Bool, true, false, List, [], ◌∷◌, ◌++◌, map, Option, Some, None}
use Rattle.std.specs.List.{AllByRecursion, flat_map}
use Rattle.wire_msgs.specs.declared.fault.MsgFault.{MsgFault}
use Rattle.wire_msgs.specs.declared.request.Request.{Request}
use Rattle.wire_msgs.specs.declared.response.Response.{Response}
use Rattle.wire_msgs.specs.Responses.{response_bytes}
use Rattle.sql_engine.specs.declared.kind.EngineKind.{EngineKind}
use Rattle.sql_engine.specs.Meanings.{Meaning, Told}
use Rattle.session_spec.specs.Causes.{failure, unread_cause}
use Rattle.session_spec.specs.Sessions.{Reply, Job, responses_of}
use Rattle.session_statements.specs.Running.{TellsAll}
use Rattle.session_outcomes.specs.Reading.{read_named}
use Rattle.client_connection.specs.Connection.{Conn, received}
use Rattle.database_state.specs.Machines.{names_of}
use Rattle.raft_spec.specs.Log.{Entry}
use Rattle.raft_spec.specs.Node as raft
use Rattle.raft_messages.specs.declared.message.RaftMessage.{RaftMessage}
use Rattle.raft_messages.specs.declared.message.MessageBody.{MessageBody}
use Rattle.raft_messages.specs.declared.message.MessageBody.TheVariants as whats
use Rattle.raft_messages.specs.Messages.{message_value}
use Rattle.raft_core.specs.declared.event.RaftEvent.{RaftEvent}
use Rattle.raft_core.specs.declared.event.RaftEvent.TheVariants as due
use Rattle.raft_safety.specs.Members.{Setup}
use Rattle.store_laws.specs.Store.{Kept}
use Rattle.raft_on_disk.specs.Looking.{puts_snapshot}
use Rattle.raft_on_disk.specs.Mails.{no_mail, all_posted, sent}
use Rattle.raft_on_disk.specs.Replicas.{kept_of}
use Rattle.applied_state.specs.Snapshot.{snapshot_in, offered_to}
use Rattle.node_spec.specs.Accounts.{Moment, resting, Piece, Goes, Begins}
use Rattle.node_spec.specs.RaftTurns.{HasServers}
use Rattle.node_spec.specs.Steps.{Letter, Taken, Made, TellsVoters, VotersWereTold, CompletesStep, StopsInStep, AllSent}
use Rattle.node_core.specs.declared.event.Event.{Event}
use Rattle.node_core.specs.declared.event.Event.TheVariants as events
use Rattle.node_core.specs.declared.outs.StepOutputs.{StepOutputs}
use Rattle.node_core.specs.declared.running.Running.{Running}
use Rattle.node_core.specs.Carrying.{LinesSince, ConnectionsOfStep, ConnectionsOfStop}
use Rattle.node_core.specs.Values.{seen, clients_in, requests_in, waiting_on}
use Rattle.node_core.specs.Voters.{Beside}

-- ---- a moment of a step

-- the proposals among what is due at Raft
abbrev pub proposals_in : List RaftEvent → List (List Entry)
proposals_in [] = []
proposals_in (due.Propose es ∷ rest) = es ∷ proposals_in rest
proposals_in (due.Timeout ∷ rest) = proposals_in rest
proposals_in (due.Beat ∷ rest) = proposals_in rest
proposals_in (due.Yield ∷ rest) = proposals_in rest
proposals_in (due.Message m ∷ rest) = proposals_in rest
proposals_in (due.Transfer to ∷ rest) = proposals_in rest
proposals_in (due.Snapped at ∷ rest) = proposals_in rest
proposals_in (due.Servers servers ∷ rest) = proposals_in rest

-- what runs, as the rules see it at a moment of an act
abbrev pub moment_of : Running → Moment
moment_of n = record { node = seen n; applied = n.applied.index; due = proposals_in n.due.items }

-- ---- what is said

-- the bytes of a snapshot that a message brings
abbrev pub bytes_in : MessageBody → List ℕ
bytes_in (whats.Install snapshot) = snapshot.bytes
bytes_in (whats.AskVote last transfer) = []
bytes_in (whats.Vote granted) = []
bytes_in (whats.Append prev commit entries) = []
bytes_in (whats.Ack good index) = []
bytes_in whats.TimeoutNow = []

-- a message with the bytes of its snapshot
abbrev pub letter_of : RaftMessage → Letter
letter_of m = record { message = message_value m; bytes = bytes_in m.what }

-- A reply of a node's life, or the refusal of a message that doesn't read as a request, which is not one of its life's.
pub data Item : Type 0 where
  Lived : (conn : ℕ) (reply : Reply) → Item
  Unread : (conn : ℕ) (fault : MsgFault) → Item

abbrev pub lived : Item → List (ℕ × Reply)
lived (Lived conn reply) = (conn, reply) ∷ []
lived (Unread conn fault) = []

abbrev pub responses_in : Item → List (ℕ × Response)
responses_in (Lived conn reply) = map (λ (r : Response). (conn, r)) (responses_of reply)
responses_in (Unread conn fault) = (conn, failure (unread_cause fault)) ∷ []

abbrev pub sent_so : ℕ × Response → ℕ × List ℕ
sent_so told = (told.0, response_bytes told.1)

-- Replies as they are sent, with refusals of messages that don't read between them.
pub record Sends (replies : List (ℕ × Reply)) (bytes : List (ℕ × List ℕ)) : Type 0 where
  pub items : List Item
  pub lives : replies ≡ flat_map lived items
  pub sends : bytes ≡ map sent_so (flat_map responses_in items)

-- What a part of a step says: these peer messages are posted, these replies are sent after the others, and these jobs are handed to readers
-- after the others.
pub record Says (old new : Running) (letters : List Letter) (replies : List (ℕ × Reply)) (jobs : List (ℕ × Job)) : Type 0 where
  pub posted : List RaftMessage
  pub letters_are : letters ≡ map letter_of posted
  pub mail : new.mail ≡ all_posted old.mail posted
  pub told : List (ℕ × List ℕ)
  pub outs : new.outs.replies.items ≡ old.outs.replies.items ++ told
  pub tells : Sends replies told
  pub reads : new.outs.reads.items ≡ old.outs.reads.items ++ jobs

-- ---- turns

-- What comes in: inputs of Raft, the bytes of a snapshot with them, a connection, what connections ask, and what a reader answers.
pub record Brought : Type 0 where
  pub inputs : List raft.Input
  pub bytes : List ℕ
  pub joins : Option ℕ
  pub read : Option (ℕ × Reply)
  pub asks : ℕ → List Request

-- what a node adds by itself: proposals, a leadership handed over, and the servers of its log
abbrev pub IsOwn : raft.Input → Type 0
IsOwn (raft.Local (raft.Propose entries)) = Unit {0}
IsOwn (raft.Local (raft.Transfer to)) = Unit {0}
IsOwn (raft.Local (raft.UseServers servers)) = Unit {0}
IsOwn (raft.Local (raft.Snapped index)) = ⊥
IsOwn (raft.Local raft.Timeout) = ⊥
IsOwn (raft.Local raft.Beat) = ⊥
IsOwn (raft.Local raft.Yield) = ⊥
IsOwn (raft.Receive m) = ⊥

-- what is taken in is this, and then what the node adds
pub record Adds (inputs given : List raft.Input) : Type 0 where
  pub own : List raft.Input
  pub each : AllByRecursion IsOwn own
  pub is : inputs ≡ given ++ own

-- A turn in which nothing comes in from outside: from the moment before it the rules come to the one after it, and it says what they say.
-- The engine gave the answers that they use, and no others.
pub record Turns (m : Meaning) (kind : EngineKind) (setup : Setup) (bytes : List ℕ) (joins : Option ℕ) (old new : Running)
    (told_before told_now : Option Told) : Type 0 where
  pub piece : Piece
  pub goes : Goes m kind setup old.replica.id bytes joins (moment_of old) (moment_of new) piece
  pub inputs : Adds piece.inputs []
  pub asks : (conn : ℕ) → piece.asks conn ≡ []
  pub says : Says old new piece.letters piece.replies piece.jobs
  pub heard : TellsAll piece.answers told_before told_now
  pub sent : AllSent (kept_of old.replica) (kept_of new.replica) piece.letters
  pub id : new.replica.id ≡ old.replica.id

-- The servers of the node's configurations are those that are applied: this holds for a node at rest in each run.
abbrev pub KnowsServers : Setup → Running → Type 0
KnowsServers setup n = HasServers setup (moment_of n) n.members.servers

-- What happened since an act began, in which this came in. It is late where a reply may have waited for a proposal.
pub record Since (m : Meaning) (kind : EngineKind) (setup : Setup) (x : Brought) (late : Bool) (old new : Running) (told_before told_now : Option Told)
    : Type 0 where
  pub piece : Piece
  pub goes : KnowsServers setup old → Begins m kind setup old.replica.id x.bytes x.joins x.read (moment_of old) (moment_of new) piece
  pub inputs : Adds piece.inputs x.inputs
  pub asks : (conn : ℕ) → piece.asks conn ≡ x.asks conn
  pub is_late : piece.late ≡ late
  pub says : Says old new piece.letters piece.replies piece.jobs
  pub heard : TellsAll piece.answers told_before told_now
  pub sent : AllSent (kept_of old.replica) (kept_of new.replica) piece.letters
  pub id : new.replica.id ≡ old.replica.id

-- ---- acts

-- how an act of a step begins: with its event; with a message of a peer that came on a connection; with an own snapshot
pub data Begin : Type 0 where
  Happens : (event : Event) → Begin
  Comes : (message : RaftMessage) → Begin
  Compacts : (index : ℕ) → Begin

-- the input of Raft that it begins with, if any
abbrev pub inputs_of : Begin → List raft.Input
inputs_of (Happens events.Timeout) = raft.Local raft.Timeout ∷ []
inputs_of (Happens events.Beat) = raft.Local raft.Beat ∷ []
inputs_of (Happens events.Yield) = raft.Local raft.Yield ∷ []
inputs_of (Happens (events.Peer m)) = raft.Receive (message_value m) ∷ []
inputs_of (Happens (events.Connect conn)) = []
inputs_of (Happens (events.Bytes conn bytes)) = []
inputs_of (Happens (events.Hangup conn)) = []
inputs_of (Happens (events.ReadDone conn read)) = []
inputs_of (Comes m) = raft.Receive (message_value m) ∷ []
inputs_of (Compacts index) = raft.Local (raft.Snapped index) ∷ []

-- the bytes of the snapshot that comes with it
abbrev pub bytes_of : Begin → List ℕ
bytes_of (Happens (events.Peer m)) = bytes_in m.what
bytes_of (Happens events.Timeout) = []
bytes_of (Happens events.Beat) = []
bytes_of (Happens events.Yield) = []
bytes_of (Happens (events.Connect conn)) = []
bytes_of (Happens (events.Bytes conn bytes)) = []
bytes_of (Happens (events.Hangup conn)) = []
bytes_of (Happens (events.ReadDone conn read)) = []
bytes_of (Comes m) = bytes_in m.what
bytes_of (Compacts index) = []

-- who connects
abbrev pub joins_of : Begin → Option ℕ
joins_of (Happens (events.Connect conn)) = Some conn
joins_of (Happens (events.Peer m)) = None
joins_of (Happens events.Timeout) = None
joins_of (Happens events.Beat) = None
joins_of (Happens events.Yield) = None
joins_of (Happens (events.Bytes conn bytes)) = None
joins_of (Happens (events.Hangup conn)) = None
joins_of (Happens (events.ReadDone conn read)) = None
joins_of (Comes m) = None
joins_of (Compacts index) = None

-- what a reader answers; nothing if it gives its query back
abbrev pub told_of : ℕ → Option Reply → Option (ℕ × Reply)
told_of conn None = None
told_of conn (Some reply) = Some (conn, reply)

abbrev pub read_of : Begin → Option (ℕ × Reply)
read_of (Happens (events.ReadDone conn read)) = told_of conn (read_named read)
read_of (Happens (events.Connect conn)) = None
read_of (Happens (events.Peer m)) = None
read_of (Happens events.Timeout) = None
read_of (Happens events.Beat) = None
read_of (Happens events.Yield) = None
read_of (Happens (events.Bytes conn bytes)) = None
read_of (Happens (events.Hangup conn)) = None
read_of (Comes m) = None
read_of (Compacts index) = None

-- A message counts as lost: its snapshot would be put in the place of entries, and its bytes are none, or lack a database of the node.
pub record LosesMessage (old : Running) (m : RaftMessage) : Type 0 where
  pub puts : puts_snapshot old.replica m ≡ true
  pub unread : offered_to (names_of old.applied.machine) (snapshot_in (bytes_in m.what)) ≡ None

abbrev pub IsLost : Running → Begin → Type 0
IsLost old (Happens (events.Peer m)) = LosesMessage old m
IsLost old (Comes m) = LosesMessage old m
IsLost old (Happens events.Timeout) = ⊥
IsLost old (Happens events.Beat) = ⊥
IsLost old (Happens events.Yield) = ⊥
IsLost old (Happens (events.Connect conn)) = ⊥
IsLost old (Happens (events.Bytes conn bytes)) = ⊥
IsLost old (Happens (events.Hangup conn)) = ⊥
IsLost old (Happens (events.ReadDone conn read)) = ⊥
IsLost old (Compacts index) = ⊥

-- the requests that wait on a connection, once these bytes have come on it
abbrev pub heard_on : Option Conn → List ℕ → List Request
heard_on None bytes = []
heard_on (Some stream) bytes = requests_in (received stream bytes).waiting

abbrev pub NoneAsks : (ℕ → List Request) → Type 0
NoneAsks asks = (conn : ℕ) → asks conn ≡ []

-- these are the requests that bytes bring, after those that wait
pub record BytesAsk (old : Running) (conn : ℕ) (bytes : List ℕ) (asks : ℕ → List Request) : Type 0 where
  pub here : waiting_on ((clients_in old).streams conn) ++ asks conn ≡ heard_on ((clients_in old).streams conn) bytes
  pub others : (other : ℕ) → other ≢ conn → asks other ≡ []

abbrev pub Brings : Running → Begin → (ℕ → List Request) → Type 0
Brings old (Happens (events.Bytes conn bytes)) asks = BytesAsk old conn bytes asks
Brings old (Happens (events.Peer m)) asks = NoneAsks asks
Brings old (Happens events.Timeout) asks = NoneAsks asks
Brings old (Happens events.Beat) asks = NoneAsks asks
Brings old (Happens events.Yield) asks = NoneAsks asks
Brings old (Happens (events.Connect conn)) asks = NoneAsks asks
Brings old (Happens (events.Hangup conn)) asks = NoneAsks asks
Brings old (Happens (events.ReadDone conn read)) asks = NoneAsks asks
Brings old (Comes m) asks = NoneAsks asks
Brings old (Compacts index) asks = NoneAsks asks

-- This comes in by it: unless its message counts as lost, the input of Raft that it is.
pub record Comes_in (old : Running) (begin : Begin) (x : Brought) : Type 0 where
  pub inputs : (x.inputs ≡ inputs_of begin) ⊎ (IsLost old begin × (x.inputs ≡ []))
  pub bytes : x.bytes ≡ bytes_of begin
  pub joins : x.joins ≡ joins_of begin
  pub read : x.read ≡ read_of begin
  pub asks : Brings old begin x.asks

-- and this is taken in: that first of all, and then what the node adds
pub record Takes (old : Running) (begin : Begin) (x : Taken) : Type 0 where
  pub inputs : Adds x.inputs (inputs_of begin) ⊎ (IsLost old begin × Adds x.inputs [])
  pub bytes : x.bytes ≡ bytes_of begin
  pub joins : x.joins ≡ joins_of begin
  pub read : x.read ≡ read_of begin
  pub asks : Brings old begin x.asks

-- a node that rests: all that is committed is applied, and nothing is due
abbrev pub IsResting : Running → Type 0
IsResting n = moment_of n ≡ resting (seen n)

-- This holds if an act begins; and the configurations go up to what is applied, and Raft's part is of the node's id.
pub record AtRest (n : Running) : Type 0 where
  pub rests : IsResting n
  pub at : n.members.at ≡ n.applied.index
  pub id : n.replica.raft.id ≡ n.replica.id

-- nothing is made; and one after the other
abbrev pub none_made : Made
none_made = record { letters = []; replies = []; jobs = []; answers = [] }

abbrev pub made_both : Made → Made → Made
made_both x y = record {
  letters = x.letters ++ y.letters;
  replies = x.replies ++ y.replies;
  jobs = x.jobs ++ y.jobs;
  answers = x.answers ++ y.answers;
}

-- An act of a step that ended well, with what it makes. At each of its steps of Raft the node was given the voters by which it is counted.
pub record Act (m : Meaning) (kind : EngineKind) (setup : Setup) (old new : Running) (begin : Begin) (made : Made) : Type 0 where
  pub stood : AtRest old
  pub id : new.replica.raft.id ≡ old.replica.raft.id
  pub taken : Taken
  pub takes : Takes old begin taken
  pub steps : KnowsServers setup old → CompletesStep m kind setup old.replica.id (seen old) (seen new) taken made.letters made.replies made.jobs made.answers
  pub tells : TellsVoters setup old.replica.id (seen old) taken
  pub counts : VotersWereTold setup old.replica.id (seen old) (seen new) taken
  pub sent : AllSent (kept_of old.replica) (kept_of new.replica) made.letters

-- These acts lead from one node to another, and make this. Before each of them, and after the last, only what the rules don't see changes.
abbrev pub Acts : Meaning → EngineKind → Setup → Running → Running → List Begin → Made → Type 0
Acts m kind setup old new [] made = (seen new ≡ seen old) × (made ≡ none_made)
Acts m kind setup old new (begin ∷ begins) made =
    (from : Running) × (mid : Running) × (first : Made) × (rest : Made) × (seen from ≡ seen old) × Act m kind setup from mid begin first ×
    Acts m kind setup mid new begins rest × (made ≡ made_both first rest)

-- what connections ask in them, one act after another
abbrev pub acts_asks : (m : Meaning) (kind : EngineKind) (setup : Setup) (old new : Running) (begins : List Begin) (made : Made) →
    Acts m kind setup old new begins made → ℕ → List Request
acts_asks m kind setup old new [] made acts conn = []
acts_asks m kind setup old new (begin ∷ begins) made acts conn = acts.5.taken.asks conn ++ acts_asks m kind setup acts.1 new begins acts.3 acts.6 conn

-- What the last of them left when it failed or was stopped.
pub record Stopped (m : Meaning) (kind : EngineKind) (setup : Setup) (old : Running) (begin : Begin) (kept : Kept) : Type 0 where
  pub stood : AtRest old
  pub taken : Taken
  pub takes : Takes old begin taken
  pub stops : KnowsServers setup old → StopsInStep m kind setup old.replica.id (seen old) kept taken
  pub tells : TellsVoters setup old.replica.id (seen old) taken

-- ---- the acts of a step

-- Acts led from one node to another, what they say was said, and the engine gave the answers that they use.
pub record Went (m : Meaning) (kind : EngineKind) (setup : Setup) (old new : Running) (begins : List Begin) (told_before told_now : Option Told) : Type 0 where
  pub made : Made
  pub acts : Acts m kind setup old new begins made
  pub says : Says old new made.letters made.replies made.jobs
  pub heard : TellsAll made.answers told_before told_now

-- a step continues after its event by messages of peers that came on connections, and by own snapshots
abbrev pub IsMore : Begin → Type 0
IsMore (Happens event) = ⊥
IsMore (Comes message) = Unit {0}
IsMore (Compacts index) = Unit {0}

abbrev pub AreOf : Event → List Begin → Type 0
AreOf event [] = ⊥
AreOf event (begin ∷ begins) = (begin ≡ Happens event) × AllByRecursion IsMore begins

-- no message of a peer came on a connection
abbrev pub IsAlone : Begin → Type 0
IsAlone (Happens event) = Unit {0}
IsAlone (Comes message) = ⊥
IsAlone (Compacts index) = Unit {0}

-- none did where the node has no peer connections
abbrev pub AreAlone : Running → List Begin → Type 0
AreAlone n begins = n.has_links ≡ false → AllByRecursion IsAlone begins

-- the messages of peers that came on connections, in order
abbrev pub message_by : Begin → List RaftMessage
message_by (Happens event) = []
message_by (Comes message) = message ∷ []
message_by (Compacts index) = []

abbrev pub messages_of : List Begin → List RaftMessage
messages_of begins = flat_map message_by begins

-- nothing is said between two acts, and only what the rules don't see changes
pub record Between (old new : Running) : Type 0 where
  pub same : seen new ≡ seen old
  pub links : new.has_links ≡ old.has_links
  pub mail : new.mail ≡ old.mail
  pub replies : new.outs.replies.items ≡ old.outs.replies.items
  pub reads : new.outs.reads.items ≡ old.outs.reads.items

-- ---- a step that is under way

-- Only what the rules don't see has changed: the moment is the same, and nothing is said.
pub record Fresh (old new : Running) : Type 0 where
  pub moment : moment_of new ≡ moment_of old
  pub mail : new.mail ≡ old.mail
  pub replies : new.outs.replies.items ≡ old.outs.replies.items
  pub reads : new.outs.reads.items ≡ old.outs.reads.items
  pub kept : kept_of new.replica ≡ kept_of old.replica
  pub id : new.replica.id ≡ old.replica.id
  pub links : new.has_links ≡ old.has_links

-- Of an act that began at this node: this came in by it, and this happened since.
pub record SoFar (m : Meaning) (kind : EngineKind) (setup : Setup) (from now : Running) (begin : Begin) (told_before told_now : Option Told) : Type 0 where
  pub brought : Brought
  pub late : Bool
  pub comes : Comes_in from begin brought
  pub since : Since m kind setup brought late from now told_before told_now
  pub beside : Beside setup from now brought.bytes since.piece.inputs

-- A step of an event is under way: these acts have ended, and this one began where the node last rested. Without peer connections none of them began
-- with a message on a connection.
pub record Underway (m : Meaning) (kind : EngineKind) (setup : Setup) (start now : Running) (event : Event) (told_before told_now : Option Told) : Type 0 where
  pub begins : List Begin
  pub begin : Begin
  pub are : AreOf event (begins ++ begin ∷ [])
  pub mid : Running
  pub told_between : Option Told
  pub went : Went m kind setup start mid begins told_before told_between
  pub from : Running
  pub between : Between mid from
  pub stood : AtRest from
  pub so_far : SoFar m kind setup from now begin told_between told_now
  pub asks : Brings start (Happens event) (λ conn. acts_asks m kind setup start mid begins went.made went.acts conn ++ so_far.brought.asks conn)
  pub links : now.has_links ≡ start.has_links
  pub alone : AreAlone start (begins ++ begin ∷ [])
  pub lines : LinesSince event start now (messages_of (begins ++ begin ∷ []))

-- ---- what a step shows

-- A step that ended well: its acts are those of the rules, the first one that of the event, and it says what they say: of the Appends and
-- Installs to one peer the last one. It hands to readers what they lend, and the engine gave the answers that they use, and no others.
-- Connections ask what the event's bytes bring to the streams that they had before. A node without peer connections takes no peer's message from a
-- connection, and stays without them. The messages of peers that it takes from connections, and whom it closes, are those of the moves that it
-- makes there.
pub record AccountsForStep (m : Meaning) (kind : EngineKind) (setup : Setup) (old new : Running) (event : Event) (outs : StepOutputs) (told_before told_now : Option Told)
    : Type 0 where
  pub begins : List Begin
  pub are : AreOf event begins
  pub made : Made
  pub acts : Acts m kind setup old new begins made
  pub posted : List RaftMessage
  pub letters_are : made.letters ≡ map letter_of posted
  pub messages : outs.messages.items ≡ sent (all_posted no_mail posted)
  pub tells : Sends made.replies outs.replies.items
  pub reads : outs.reads.items ≡ made.jobs
  pub heard : TellsAll made.answers told_before told_now
  pub asks : Brings old (Happens event) (acts_asks m kind setup old new begins made acts)
  pub links : new.has_links ≡ old.has_links
  pub alone : AreAlone old begins
  pub lines : ConnectionsOfStep event old new outs (messages_of begins)

-- A step that failed or was stopped: what is kept is what the last of its acts left, and those before it ended well.
pub record AccountsForStop (m : Meaning) (kind : EngineKind) (setup : Setup) (old : Running) (event : Event) (kept : Kept) : Type 0 where
  pub begins : List Begin
  pub last : Begin
  pub are : AreOf event (begins ++ last ∷ [])
  pub mid : Running
  pub made : Made
  pub acts : Acts m kind setup old mid begins made
  pub stopped : Stopped m kind setup mid last kept
  pub alone : AreAlone old (begins ++ last ∷ [])
  pub lines : ConnectionsOfStop event old (messages_of (begins ++ last ∷ []))
