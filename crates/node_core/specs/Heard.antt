-- What a connection of a node has asked: the requests that its bytes encode, in whatever pieces and steps they came.
use Rattle.std.specs.Prelude.{◌≡◌, ℕ, ◌==◌, false, cond, List, [], ◌++◌, Some, None}
use Rattle.wire_words.specs.declared.message.Message.{Message}
use Rattle.wire_words.specs.Stream.{stream, client_limit}
use Rattle.wire_msgs.specs.declared.request.Request.{Request}
use Rattle.client_connection.specs.Connection.{Conn, HasTaken}
use Rattle.node_core.specs.declared.event.Event.{Event}
use Rattle.node_core.specs.declared.event.Event.TheVariants as events
use Rattle.node_core.specs.declared.outs.StepOutputs.{StepOutputs}
use Rattle.node_core.specs.declared.running.Running.{Running}
use Rattle.node_core.specs.Account.{Happens, Brings}
use Rattle.node_core.specs.Conns.{StreamsOfStep}
use Rattle.node_core.specs.Values.{clients_in, requests_in}

-- The connection is open, and these bytes have come on it. It has asked the requests that those encode which were read, each message of
-- which was taken or waits; all were read, unless one had no room.
pub record HasHeard (n : Running) (conn : ℕ) (bytes : List ℕ) (asked : List Request) : Type 0 where
  pub connection : Conn
  pub opens : (clients_in n).streams conn ≡ Some connection
  pub read : List ℕ
  pub unread : List ℕ
  pub all : bytes ≡ read ++ unread
  pub whole : connection.full ≡ false → unread ≡ []
  pub taken : List Message
  pub has : HasTaken connection read taken
  pub asks : asked ≡ requests_in (stream client_limit read).messages

-- the bytes that come on a connection by an event
abbrev pub bytes_by : Event → ℕ → List ℕ
bytes_by (events.Bytes other bytes) conn = cond (conn == other) bytes []
bytes_by events.Timeout conn = []
bytes_by events.Beat conn = []
bytes_by events.Yield conn = []
bytes_by (events.Connect other) conn = []
bytes_by (events.Hangup other) conn = []
bytes_by (events.Peer message) conn = []
bytes_by (events.ReadDone other read) conn = []

-- A connection that comes by a step, and is open after it, has asked nothing.
abbrev pub HeardBegins : Type 0
HeardBegins =
    (old new : Running) (conn : ℕ) (outs : StepOutputs) (connection : Conn) → StreamsOfStep (events.Connect conn) old new outs → (clients_in old).streams conn ≡ None →
    (clients_in new).streams conn ≡ Some connection → HasHeard new conn [] []

-- After each step in which it stays open it has asked what this brings, too.
abbrev pub HeardOn : Type 0
HeardOn =
    (event : Event) (old new : Running) (conn : ℕ) (outs : StepOutputs) (connection : Conn) (bytes : List ℕ) (asked : List Request) (asks : ℕ → List Request) →
    HasHeard old conn bytes asked → StreamsOfStep event old new outs → Brings old (Happens event) asks → (clients_in new).streams conn ≡ Some connection →
    HasHeard new conn (bytes ++ bytes_by event conn) (asked ++ asks conn)
