-- How many bytes a node holds of what clients have said, and of what they are to be sent.
use Rattle.std.specs.Prelude.{◌+◌, ℕ, List, [], ◌∷◌, Option, Some, None}
use Rattle.std.specs.BTreeMap.{get, values}
use Rattle.std.specs.Ordering.{nat_cmp}
use Rattle.client_connection.specs.Connection.{Conn, footprint}
use Rattle.wire_rows.specs.Answering.{held}
use Rattle.session_table.specs.SessionSizes.{sessions_size, size_at}
use Rattle.client_sessions.specs.declared.clients.Clients.{Clients as Held}

-- what the streams of connections hold
abbrev pub streams_size : List Conn → ℕ
streams_size [] = 0
streams_size (stream ∷ streams) = footprint stream + streams_size streams

-- what the sessions keep, and what the streams of the open connections hold; as a number of 64 bits
abbrev pub all_held : Held → ℕ
all_held clients = held (sessions_size clients.gateway.sessions + streams_size (values clients.connections))

abbrev pub stream_size : Option Conn → ℕ
stream_size None = 0
stream_size (Some stream) = footprint stream

-- the same for one connection
abbrev pub held_for : ℕ → Held → ℕ
held_for conn clients = held (size_at conn clients.gateway.sessions + stream_size (get nat_cmp clients.connections conn))
