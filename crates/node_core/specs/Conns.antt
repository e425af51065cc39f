-- The connections of clients in a step: what is taken of their streams, and which are closed.
use Rattle.std.specs.Prelude.{◌≡◌, ℕ, Bool, ◌==◌, false, cond, List, [], ◌∷◌, ◌++◌, Option, Some, None}
use Rattle.wire_words.specs.declared.message.Message.{Message}
use Rattle.client_connection.specs.declared.connection.CloseReason.{CloseReason}
use Rattle.client_connection.specs.Connection.{Conn, opened, received}
use Rattle.client_sessions.specs.declared.act.Act.{Act}
use Rattle.client_sessions.specs.declared.act.Act.TheVariants as acts
use Rattle.client_sessions.specs.Clients.{Clients, closing, hung_up, joining}
use Rattle.node_core.specs.declared.event.Event.{Event}
use Rattle.node_core.specs.declared.event.Event.TheVariants as events
use Rattle.node_core.specs.declared.node.Node.{Node}
use Rattle.node_core.specs.declared.outs.StepOutputs.{StepOutputs}
use Rattle.node_core.specs.declared.running.Running.{Running}
use Rattle.node_core.specs.declared.links.Link.{Link}
use Rattle.node_core.specs.Carrying.{BeginsLines, lines_in, close_of, full_for, link_on, reason_at, gone_at}
use Rattle.node_core.specs.Values.{clients_in}

-- ---- streams

-- Messages were taken from the front of what waits, and the stream has stayed else; or its connection has gone.
abbrev pub StreamOn : Option Conn → Option Conn → Type 0
StreamOn before None = Unit {0}
StreamOn None (Some now) = ⊥
StreamOn (Some before) (Some now) = (taken : List Message) × (before ≡ record { end = now.end; waiting = taken ++ now.waiting; full = now.full })

abbrev pub StreamsOn : (ℕ → Option Conn) → (ℕ → Option Conn) → Type 0
StreamsOn before now = (conn : ℕ) → StreamOn (before conn) (now conn)

-- a connection's stream after what an event brings to it: a new one if it comes, and its bytes where they come on it
abbrev pub come_by : Option Conn → ℕ → ℕ → Option Conn
come_by None other conn = cond (conn == other) (Some opened) None
come_by (Some stream) other conn = Some stream

abbrev pub heard_by : Option Conn → ℕ → ℕ → List ℕ → Option Conn
heard_by None other conn bytes = None
heard_by (Some stream) other conn bytes = Some (cond (conn == other) (received stream bytes) stream)

abbrev pub brought : Event → ℕ → Option Conn → Option Conn
brought (events.Connect other) conn stream = come_by stream other conn
brought (events.Bytes other bytes) conn stream = heard_by stream other conn bytes
brought events.Timeout conn stream = stream
brought events.Beat conn stream = stream
brought events.Yield conn stream = stream
brought (events.Hangup other) conn stream = stream
brought (events.Peer message) conn stream = stream
brought (events.ReadDone other read) conn stream = stream

-- ---- which are closed

-- the connection whose bytes came, where its stream has ended
abbrev pub close_on : Option ℕ → (ℕ → Option Conn) → List (ℕ × CloseReason)
close_on None streams = []
close_on (Some conn) streams = close_of conn (closing (streams conn))

-- those that are closed so far in a step, and the one that will be
abbrev pub closes_in : Running → List (ℕ × CloseReason)
closes_in n = n.outs.closed.items ++ close_on n.heard (clients_in n).streams

-- Those that an event closes at a node without peer connections: one that comes if no session is left for it, and the one whose bytes come where
-- its stream then is at its end, or had no room for a byte.
abbrev pub closes_by : Event → Clients → List (ℕ × CloseReason)
closes_by (events.Connect conn) k = full_for conn (joining k.sessions conn)
closes_by (events.Bytes conn bytes) k = close_of conn (closing (heard_by (k.streams conn) conn conn bytes))
closes_by events.Timeout k = []
closes_by events.Beat k = []
closes_by events.Yield k = []
closes_by (events.Hangup conn) k = []
closes_by (events.Peer message) k = []
closes_by (events.ReadDone conn read) k = []

-- the node has no peer connections to other nodes, and so no connection that carries a peer's messages
pub record IsUnlinked (n : Running) : Type 0 where
  pub links : n.links.all.items ≡ []
  pub view : n.view.links ≡ false

-- No connection carries a peer's messages yet, and the sessions are told whether there are peer connections.
pub record HasNoPeers (has_links : Bool) (n : Running) : Type 0 where
  pub links : n.links.all.items ≡ []
  pub view : n.view.links ≡ has_links

-- a node that has started: without peer connections it is unlinked
abbrev pub StartsUnlinked : Bool → Node → Type 0
StartsUnlinked has_links n = HasNoPeers has_links n.running × (has_links ≡ false → IsUnlinked n.running)

-- ---- a part of a step

-- The connections are as they were, and so is which of them are to be closed.
pub record KeepsConns (old new : Running) : Type 0 where
  pub streams : (clients_in new).streams ≡ (clients_in old).streams
  pub heard : new.heard ≡ old.heard
  pub closed : new.outs.closed.items ≡ old.outs.closed.items
  pub links : new.links.all.items ≡ old.links.all.items
  pub view : new.view.links ≡ old.view.links
  pub id : new.view.id ≡ old.view.id
  pub has_links : new.has_links ≡ old.has_links

-- No connection comes, and no bytes come: of a node without peer connections those that are closed so far, and the one that will be, are the same.
pub record StreamsClose (old new : Running) : Type 0 where
  pub streams : StreamsOn (clients_in old).streams (clients_in new).streams
  pub closes : IsUnlinked old → IsUnlinked new × (closes_in new ≡ closes_in old)

-- a connection that carries this peer's messages from now on, if its stream is there
abbrev pub link_for : ℕ → ℕ → Option Conn → List Link
link_for conn peer None = []
link_for conn peer (Some stream) = (record { conn = conn; peer = peer; stream = stream }) ∷ []

-- A connection that carries a peer's messages from now on has left the clients.
pub record LeavesConns (old new : Running) (conn peer : ℕ) : Type 0 where
  pub streams : (clients_in new).streams ≡ (hung_up (clients_in old) conn).streams
  pub links : new.links.all.items ≡ old.links.all.items ++ link_for conn peer ((clients_in old).streams conn)
  pub heard : new.heard ≡ old.heard
  pub closed : new.outs.closed.items ≡ old.outs.closed.items
  pub view : new.view ≡ old.view
  pub has_links : new.has_links ≡ old.has_links

-- so after what came of a message
abbrev pub StreamsAfterMessage : Act → Running → Running → Type 0
StreamsAfterMessage (acts.Reply conn messages) old new = KeepsConns old new
StreamsAfterMessage (acts.Propose conn entries) old new = KeepsConns old new
StreamsAfterMessage (acts.Lend conn job) old new = KeepsConns old new
StreamsAfterMessage (acts.Transfer conn to reply) old new = KeepsConns old new
StreamsAfterMessage (acts.Peer conn id reply) old new = LeavesConns old new conn id

-- A connection was closed, if it was to be, and for this reason.
pub record ClosesConn (old new : Running) (conn : ℕ) (reason : Option CloseReason) : Type 0 where
  pub streams : StreamsOn (clients_in old).streams (clients_in new).streams
  pub closed : new.outs.closed.items ≡ old.outs.closed.items
  pub closes : IsUnlinked old → IsUnlinked new × (reason ≡ closing ((clients_in old).streams conn))
  pub why : reason ≡ reason_at (link_on conn old.links.all.items) ((clients_in old).streams conn)
  pub lines : lines_in new ≡ gone_at (link_on conn old.links.all.items) (lines_in old) conn reason

-- An event was given to clients, or happened at Raft.
pub record ConnsBegin (event : Event) (old new : Running) : Type 0 where
  pub streams : (conn : ℕ) → StreamOn (brought event conn ((clients_in old).streams conn)) ((clients_in new).streams conn)
  pub closes : old.outs.closed.items ≡ [] → old.heard ≡ None → IsUnlinked old → IsUnlinked new × (closes_in new ≡ closes_by event (clients_in old))
  pub lines : BeginsLines event old new

-- A step: each stream has what the event brought to it, and messages were taken from its front; and of a node without peer connections exactly these
-- connections are closed.
pub record StreamsOfStep (event : Event) (old new : Running) (outs : StepOutputs) : Type 0 where
  pub streams : (conn : ℕ) → StreamOn (brought event conn ((clients_in old).streams conn)) ((clients_in new).streams conn)
  pub closes : IsUnlinked old → IsUnlinked new × (outs.closed.items ≡ closes_by event (clients_in old))
