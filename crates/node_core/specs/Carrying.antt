-- Connections that carry a peer's messages: what comes on them and is taken of them, and how the connections of a node change in a step.
use Rattle.std.specs.Prelude.{◌≡◌, ℕ, ◌==◌, Bool, true, not, List, [], ◌∷◌, ◌++◌, find, Option, Some, None, Result, Ok, Err, if◌then◌else◌}
use Rattle.std.specs.List.{filter, flat_map}
use Rattle.wire_words.specs.declared.message.Message.{Message}
use Rattle.wire_msgs.specs.declared.request.Request.TheVariants as requests
use Rattle.wire_msgs.specs.Reading.{request_of}
use Rattle.client_connection.specs.declared.connection.CloseReason.{CloseReason}
use Rattle.client_connection.specs.declared.connection.CloseReason.TheVariants.{Limit, Peer}
use Rattle.client_connection.specs.Connection.{Conn, received, peer_received, reason_of}
use Rattle.client_sessions.specs.declared.connect_result.ConnectResult.{ConnectResult}
use Rattle.client_sessions.specs.declared.connect_result.ConnectResult.TheVariants as joinings
use Rattle.client_sessions.specs.Clients.{Clients, with_stream, closing, joining, joined, hung_up}
use Rattle.database_state.specs.ByName.{change_first}
use Rattle.raft_messages.specs.declared.fault.PeerFault.{PeerFault}
use Rattle.raft_messages.specs.declared.message.RaftMessage.{RaftMessage}
use Rattle.raft_messages.specs.Reading.{peer_message_of}
use Rattle.node_core.specs.declared.event.Event.{Event}
use Rattle.node_core.specs.declared.event.Event.TheVariants as events
use Rattle.node_core.specs.declared.links.Letter.{Letter}
use Rattle.node_core.specs.declared.links.Letter.TheVariants as letters
use Rattle.node_core.specs.declared.links.Letter.TheVariants.{Wrong}
use Rattle.node_core.specs.declared.links.Link.{Link}
use Rattle.node_core.specs.declared.outs.StepOutputs.{StepOutputs}
use Rattle.node_core.specs.declared.running.Running.{Running}
use Rattle.node_core.specs.Values.{clients_in}

-- ---- the messages of a peer

abbrev pub if_from : ℕ → Result RaftMessage PeerFault → Option RaftMessage
if_from peer (Err fault) = None
if_from peer (Ok message) = if message.from == peer then Some message else None

-- what a message is to the node of this id, if it is one and this peer's
abbrev pub peers_message : ℕ → ℕ → Message → Option RaftMessage
peers_message me peer message = if_from peer (peer_message_of me message)

-- A message that waits on a peer's connection, and the connections after it.
pub record Waiting : Type 0 where
  pub link : Link
  pub message : Message
  pub links : List Link

abbrev pub with_waiting : Link → List Message → Link
with_waiting link waiting = record link { stream = record link.stream { waiting = waiting } }

abbrev pub behind_link : Link → Option Waiting → Option Waiting
behind_link link None = None
behind_link link (Some w) = Some (record { link = w.link; message = w.message; links = link ∷ w.links })

abbrev pub waiting_of : Link → List Message → List Link → Option Waiting → Option Waiting
waiting_of link [] links rest = behind_link link rest
waiting_of link (m ∷ ms) links rest = Some (record { link = link; message = m; links = with_waiting link ms ∷ links })

-- the first message that waits on one of these
unfoldable pub first_waiting : List Link → Option Waiting
first_waiting [] = None
first_waiting (link ∷ links) = waiting_of link link.stream.waiting links (first_waiting links)

-- what comes of a message: it is its peer's, or its connection is wrong
abbrev pub letter_for : ℕ → Option RaftMessage → Letter
letter_for conn None = Wrong conn
letter_for conn (Some message) = letters.Message message

abbrev pub letter_of : ℕ → Link → Message → Letter
letter_of me link message = letter_for link.conn (peers_message me link.peer message)

-- the first message was taken of a peer connection on which these wait, and this came of it; or none waits
abbrev pub LinkTook : ℕ → Link → List Message → Link → Option Letter → Type 0
LinkTook me old [] new given = (given ≡ None) × (new ≡ old)
LinkTook me old (m ∷ ms) new given = (given ≡ Some (letter_of me old m)) × (new ≡ with_waiting old ms)

-- so of peer connections of which this is the first that waits
abbrev pub TookFirst : ℕ → Option Waiting → List Link → List Link → Option Letter → Type 0
TookFirst me None old new given = (given ≡ None) × (new ≡ old)
TookFirst me (Some w) old new given = (given ≡ Some (letter_of me w.link w.message)) × (new ≡ w.links)

-- ---- the connections of peers

abbrev pub is_of : ℕ → Link → Bool
is_of conn link = link.conn == conn

-- the one of this number, if it carries a peer's messages
abbrev pub link_on : ℕ → List Link → Option Link
link_on conn links = find (is_of conn) links

abbrev pub without_link : ℕ → List Link → List Link
without_link conn links = filter (λ (link : Link). not (is_of conn link)) links

abbrev pub heard_link : ℕ → List ℕ → List Link → List Link
heard_link conn bytes links = change_first (is_of conn) (λ (link : Link). record link { stream = peer_received link.stream bytes }) links

-- why it is to be closed, if it is one and at its end
abbrev pub link_reason : Option Link → Option CloseReason
link_reason None = None
link_reason (Some link) = reason_of link.stream

-- ---- the connections of a node

-- Its id; whether it takes messages of peers from connections, and whether a CONNECT is allowed; the streams of clients; the connections of
-- peers; and the one on which bytes came, until it was looked at.
pub record Lines : Type 0 where
  pub me : ℕ
  pub takes : Bool
  pub allows : Bool
  pub streams : ℕ → Option Conn
  pub links : List Link
  pub heard : Option ℕ

abbrev pub lines_in : Running → Lines
lines_in n = record {
  me = n.view.id;
  takes = n.has_links;
  allows = n.view.links;
  streams = (clients_in n).streams;
  links = n.links.all.items;
  heard = n.heard;
}

abbrev pub close_of : ℕ → Option CloseReason → List (ℕ × CloseReason)
close_of conn None = []
close_of conn (Some reason) = (conn, reason) ∷ []

-- ---- an event

-- no room was left for one that comes
abbrev pub full_for : ℕ → ConnectResult → List (ℕ × CloseReason)
full_for conn joinings.Joined = []
full_for conn joinings.Full = (conn, Limit) ∷ []
full_for conn joinings.Taken = []

-- one comes, unless it carries a peer's messages already
abbrev pub came_unless : Option Link → ℕ → Clients → Lines → Lines
came_unless None conn k l = record l { streams = (joined k conn).streams }
came_unless (Some link) conn k l = l

abbrev pub full_unless : Option Link → ℕ → Clients → List (ℕ × CloseReason)
full_unless None conn k = full_for conn (joining k.sessions conn)
full_unless (Some link) conn k = []

-- bytes come on a client's connection, or else on a peer's, if it is one
abbrev pub heard_by_line : Option Conn → ℕ → List ℕ → Lines → Lines
heard_by_line None conn bytes l = record l { links = heard_link conn bytes l.links; heard = Some conn }
heard_by_line (Some stream) conn bytes l = record l { streams = with_stream l.streams conn (Some (received stream bytes)); heard = Some conn }

-- the connections after an event, and those that are closed by it at once
abbrev pub begun_by : Event → Clients → Lines → Lines
begun_by (events.Connect conn) k l = came_unless (link_on conn l.links) conn k l
begun_by (events.Bytes conn bytes) k l = heard_by_line (l.streams conn) conn bytes l
begun_by (events.Hangup conn) k l = record l { streams = (hung_up k conn).streams; links = without_link conn l.links }
begun_by events.Timeout k l = l
begun_by events.Beat k l = l
begun_by events.Yield k l = l
begun_by (events.Peer message) k l = l
begun_by (events.ReadDone conn read) k l = l

abbrev pub closed_first : Event → Clients → Lines → List (ℕ × CloseReason)
closed_first (events.Connect conn) k l = full_unless (link_on conn l.links) conn k
closed_first (events.Bytes conn bytes) k l = []
closed_first (events.Hangup conn) k l = []
closed_first events.Timeout k l = []
closed_first events.Beat k l = []
closed_first events.Yield k l = []
closed_first (events.Peer message) k l = []
closed_first (events.ReadDone conn read) k l = []

-- ---- moves

-- What is taken of a connection in a step. A client's message: it is any other one; or it is a CONNECT, by which the connection carries the
-- messages of this peer. A message on a peer's connection: it is one of its peer, and happens at Raft; or it is none, and the connection is
-- closed. And the connection on which bytes came is looked at, and closed where there is a reason.
pub data Move : Type 0 where
  TakesAsked : (conn : ℕ) → Move
  TakesConnect : (conn peer : ℕ) → Move
  TakesSent : (message : RaftMessage) → Move
  FindsWrong : (conn : ℕ) → Move
  LooksAt : (conn : ℕ) (reason : Option CloseReason) → Move

-- what happens at Raft by it, and what is closed
abbrev pub sent_by : Move → List RaftMessage
sent_by (TakesAsked conn) = []
sent_by (TakesConnect conn peer) = []
sent_by (TakesSent message) = message ∷ []
sent_by (FindsWrong conn) = []
sent_by (LooksAt conn reason) = []

abbrev pub closed_by : Move → List (ℕ × CloseReason)
closed_by (TakesAsked conn) = []
closed_by (TakesConnect conn peer) = []
closed_by (TakesSent message) = []
closed_by (FindsWrong conn) = (conn, Peer) ∷ []
closed_by (LooksAt conn reason) = close_of conn reason

abbrev pub with_first : Message → Conn → Conn
with_first message stream = record { end = stream.end; waiting = message ∷ stream.waiting; full = stream.full }

-- The first message of a client was taken.
pub record TookRequest (old new : Lines) (conn : ℕ) : Type 0 where
  pub message : Message
  pub now : Conn
  pub opens : old.streams conn ≡ Some (with_first message now)
  pub is : new ≡ record old { streams = with_stream old.streams conn (Some now) }

-- It is a CONNECT: what waits after it, and what is unread, is the peer's from now on.
pub record TookConnect (old new : Lines) (conn peer : ℕ) : Type 0 where
  pub message : Message
  pub now : Conn
  pub opens : old.streams conn ≡ Some (with_first message now)
  pub allowed : old.allows ≡ true
  pub address : List ℕ
  pub asks : request_of message ≡ Ok (requests.Connect peer address)
  pub is : new ≡ record old {
    streams = with_stream old.streams conn None;
    links = old.links ++ (record { conn = conn; peer = peer; stream = now }) ∷ [];
  }

-- The first message on the peers' connections is one of its peer to this node.
pub record TookPeerMessage (old new : Lines) (message : RaftMessage) : Type 0 where
  pub takes : old.takes ≡ true
  pub first : Waiting
  pub waits : first_waiting old.links ≡ Some first
  pub reads : peers_message old.me first.link.peer first.message ≡ Some message
  pub is : new ≡ record old { links = first.links }

-- It is none, or not of its peer.
pub record TookWrongMessage (old new : Lines) (conn : ℕ) : Type 0 where
  pub takes : old.takes ≡ true
  pub first : Waiting
  pub waits : first_waiting old.links ≡ Some first
  pub wrong : peers_message old.me first.link.peer first.message ≡ None
  pub conn_is : conn ≡ first.link.conn
  pub is : new ≡ record old { links = without_link conn first.links }

-- why a connection is to be closed, if it is: its stream is at its end, or had no room for a byte
abbrev pub reason_at : Option Link → Option Conn → Option CloseReason
reason_at None stream = closing stream
reason_at (Some link) stream = reason_of link.stream

abbrev pub gone_at : Option Link → Lines → ℕ → Option CloseReason → Lines
gone_at link l conn None = l
gone_at None l conn (Some reason) = record l { streams = with_stream l.streams conn None }
gone_at (Some link) l conn (Some reason) = record l { links = without_link conn l.links }

-- The connection on which bytes came was looked at, and has gone where there is a reason.
pub record ChecksConnection (old new : Lines) (conn : ℕ) (reason : Option CloseReason) : Type 0 where
  pub heard : old.heard ≡ Some conn
  pub why : reason ≡ reason_at (link_on conn old.links) (old.streams conn)
  pub is : new ≡ gone_at (link_on conn old.links) (record old { heard = None }) conn reason

abbrev pub MovesBy : Lines → Lines → Move → Type 0
MovesBy old new (TakesAsked conn) = TookRequest old new conn
MovesBy old new (TakesConnect conn peer) = TookConnect old new conn peer
MovesBy old new (TakesSent message) = TookPeerMessage old new message
MovesBy old new (FindsWrong conn) = TookWrongMessage old new conn
MovesBy old new (LooksAt conn reason) = ChecksConnection old new conn reason

-- these moves lead from one to the other
abbrev pub Runs : Lines → Lines → List Move → Type 0
Runs old new [] = new ≡ old
Runs old new (move ∷ moves) = (mid : Lines) × MovesBy old mid move × Runs mid new moves

-- ---- parts of a step

-- The event was given to the connections.
pub record BeginsLines (event : Event) (old new : Running) : Type 0 where
  pub is : lines_in new ≡ begun_by event (clients_in old) (lines_in old)
  pub closed : new.outs.closed.items ≡ old.outs.closed.items ++ closed_first event (clients_in old) (lines_in old)

-- Moves were made by which these messages happened at Raft.
pub record MovesLines (old new : Running) (sent : List RaftMessage) : Type 0 where
  pub moves : List Move
  pub runs : Runs (lines_in old) (lines_in new) moves
  pub sent_is : sent ≡ flat_map sent_by moves
  pub closed : new.outs.closed.items ≡ old.outs.closed.items ++ flat_map closed_by moves

-- This holds since the event of a step.
pub record LinesSince (event : Event) (start now : Running) (sent : List RaftMessage) : Type 0 where
  pub moves : List Move
  pub runs : Runs (begun_by event (clients_in start) (lines_in start)) (lines_in now) moves
  pub sent_is : sent ≡ flat_map sent_by moves
  pub closed : now.outs.closed.items ≡ (start.outs.closed.items ++ closed_first event (clients_in start) (lines_in start)) ++ flat_map closed_by moves

-- ---- a step

-- The connections in a step that ended well: after its event, moves were made by which these messages happened at Raft and no others; the
-- event and these moves close the connections that are closed, and no others; the connection on which bytes came was looked at; and at a
-- node with peer connections no message of a peer waits any more.
pub record ConnectionsOfStep (event : Event) (old new : Running) (outs : StepOutputs) (sent : List RaftMessage) : Type 0 where
  pub moves : List Move
  pub runs : Runs (begun_by event (clients_in old) (lines_in old)) (lines_in new) moves
  pub sent_is : sent ≡ flat_map sent_by moves
  pub closed : outs.closed.items ≡ closed_first event (clients_in old) (lines_in old) ++ flat_map closed_by moves
  pub looked : new.heard ≡ None
  pub none_waits : new.has_links ≡ true → first_waiting new.links.all.items ≡ None

-- And in one that was stopped, up to the last of these messages.
pub record ConnectionsOfStop (event : Event) (old : Running) (sent : List RaftMessage) : Type 0 where
  pub moves : List Move
  pub last : Lines
  pub runs : Runs (begun_by event (clients_in old) (lines_in old)) last moves
  pub sent_is : sent ≡ flat_map sent_by moves
