-- What a peer has sent on a connection of a node: the messages that its bytes encode, in whatever pieces and steps they came.
use Rattle.std.specs.Prelude.{◌≡◌, ◌≢◌, ℕ, false, List, [], ◌∷◌, ◌++◌, Some, None}
use Rattle.wire_words.specs.declared.message.Message.{Message}
use Rattle.wire_words.specs.Stream.{fault_in}
use Rattle.client_connection.specs.Connection.{Conn, HasTaken, PeerHasTaken}
use Rattle.client_sessions.specs.Clients.{Clients}
use Rattle.raft_messages.specs.declared.message.RaftMessage.{RaftMessage}
use Rattle.node_core.specs.declared.event.Event.{Event}
use Rattle.node_core.specs.declared.event.Event.TheVariants as events
use Rattle.node_core.specs.declared.links.Link.{Link}
use Rattle.node_core.specs.Carrying.{Lines, begun_by, link_on, Move, MovesBy, TookConnect, TookPeerMessage}

-- Each connection is a client's or carries the messages of one peer.
abbrev pub IsOnce : List Link → Type 0
IsOnce [] = Unit {0}
IsOnce (link ∷ links) = (link_on link.conn links ≡ None) × IsOnce links

pub record Apart (l : Lines) : Type 0 where
  pub clients : (conn : ℕ) (stream : Conn) → l.streams conn ≡ Some stream → link_on conn l.links ≡ None
  pub once : IsOnce l.links

-- This holds if there are none, and stays so by each event and each move.
abbrev pub BeginsApart : Type 0
BeginsApart = (l : Lines) → l.links ≡ [] → Apart l

abbrev pub EventsStayApart : Type 0
EventsStayApart = (event : Event) (k : Clients) (l : Lines) → l.streams ≡ k.streams → Apart l → Apart (begun_by event k l)

abbrev pub MovesStayApart : Type 0
MovesStayApart = (old new : Lines) (move : Move) → MovesBy old new move → Apart old → Apart new

-- The connection carries this peer's messages, and these bytes have come on it. This many of the messages that they encode were taken, in order,
-- and the others wait.
pub record Carries (l : Lines) (conn peer : ℕ) (bytes : List ℕ) (taken : List Message) : Type 0 where
  pub stream : Conn
  pub there : link_on conn l.links ≡ Some (record { conn = conn; peer = peer; stream = stream })
  pub whole : stream.full ≡ false
  pub has : PeerHasTaken stream bytes taken

-- This holds after a CONNECT, by all bytes that came on the client's connection, of which all was read;
abbrev pub CarryingBegins : Type 0
CarryingBegins =
    (old new : Lines) (conn peer : ℕ) (stream : Conn) (bytes : List ℕ) (taken : List Message) (x : TookConnect old new conn peer) → Apart old →
    old.streams conn ≡ Some stream → HasTaken stream bytes taken → stream.full ≡ false → fault_in stream.end ≡ None →
    Carries new conn peer bytes (taken ++ x.message ∷ [])

-- with more bytes;
abbrev pub CarryingHears : Type 0
CarryingHears =
    (k : Clients) (l : Lines) (conn peer : ℕ) (bytes more : List ℕ) (taken : List Message) → l.streams conn ≡ None → Carries l conn peer bytes taken →
    Carries (begun_by (events.Bytes conn more) k l) conn peer (bytes ++ more) taken

-- and if a message happens at Raft, it is the next one of its connection, and that connection's peer has sent it.
abbrev pub CarryingSends : Type 0
CarryingSends =
    (old new : Lines) (message : RaftMessage) (conn peer : ℕ) (bytes : List ℕ) (taken : List Message) (x : TookPeerMessage old new message) → Apart old →
    Carries old conn peer bytes taken → x.first.link.conn ≡ conn →
    (message.from ≡ peer) × Carries new conn peer bytes (taken ++ x.first.message ∷ [])

abbrev pub CarryingStays : Type 0
CarryingStays =
    (old new : Lines) (message : RaftMessage) (conn peer : ℕ) (bytes : List ℕ) (taken : List Message) (x : TookPeerMessage old new message) →
    Carries old conn peer bytes taken → x.first.link.conn ≢ conn → Carries new conn peer bytes taken
