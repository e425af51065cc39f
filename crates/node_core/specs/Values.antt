-- A node as the rules of nodes see it.
use Rattle.std.specs.Prelude.{ℕ, Bool, List, [], ◌∷◌, ◌++◌, Option, Some, None, Result, Ok, Err}
use Rattle.wire_words.specs.declared.message.Message.{Message}
use Rattle.wire_msgs.specs.declared.fault.MsgFault.{MsgFault}
use Rattle.wire_msgs.specs.declared.request.Request.{Request}
use Rattle.wire_msgs.specs.Reading.{request_of}
use Rattle.client_connection.specs.Connection.{Conn}
use Rattle.client_sessions.specs.Clients.{Clients}
use Rattle.client_sessions.specs.Seen.{clients_of}
use Rattle.raft_spec.specs.Node as raft
use Rattle.raft_spec.specs.NodeValues as values
use Rattle.store_laws.specs.Store.{Kept}
use Rattle.database_state.specs.declared.database.Database.{Database}
use Rattle.raft_membership.specs.Members.{last_servers}
use Rattle.session_spec.specs.Sessions.{Gateway}
use Rattle.raft_on_disk.specs.Replicas.{ReplicaValue, kept_of}
use Rattle.node_spec.specs.Nodes as rules
use Rattle.node_core.specs.declared.links.Link.{Link}
use Rattle.node_core.specs.declared.node.Node.{Node}
use Rattle.node_core.specs.declared.running.Running.{Running}

-- its clients, over its databases
abbrev pub clients_in : Running → Clients
clients_in n = clients_of n.clients n.applied.machine

-- ---- what waits

-- a message that reads as a request is one; any other is refused once its turn comes
abbrev pub request_in : Result Request MsgFault → List Request
request_in (Ok request) = request ∷ []
request_in (Err fault) = []

abbrev pub requests_in : List Message → List Request
requests_in [] = []
requests_in (m ∷ ms) = request_in (request_of m) ++ requests_in ms

-- the requests that wait on a connection
abbrev pub waiting_on : Option Conn → List Request
waiting_on None = []
waiting_on (Some stream) = requests_in stream.waiting

-- ---- the node

-- What runs, and what its disk has kept.
abbrev pub seen : Running → rules.Node
seen n = record {
  raft = n.replica.raft;
  members = n.members;
  sessions = (clients_in n).sessions;
  waiting = λ conn. waiting_on ((clients_in n).streams conn);
  machine = n.applied.machine;
  serving = n.view.serving;
  kept = kept_of n.replica;
}

abbrev pub node_of : Node → rules.Node
node_of n = seen n.running

-- its replica
abbrev pub replica_of : Node → ReplicaValue
replica_of n = n.running.replica

-- Raft's part, as a node of the rules
abbrev pub raft_of : Node → raft.Node
raft_of n = values.node_of (replica_of n).raft

-- the servers that Raft was given last
abbrev pub servers_told : Node → List raft.Server
servers_told n = (replica_of n).raft.servers

-- the servers of the last configuration of its whole log
abbrev pub servers_of : Node → List raft.Server
servers_of n = last_servers n.running.members

-- its sessions
abbrev pub sessions_of : Node → Gateway
sessions_of n = (clients_in n.running).sessions

-- its connections that carry a peer's messages
abbrev pub peer_connections : Node → List Link
peer_connections n = n.running.links.all.items

-- what its disk has kept
abbrev pub kept_by : Node → Kept
kept_by n = kept_of (replica_of n)

-- how many times something was kept in the last step
abbrev pub keeps_of : Node → ℕ
keeps_of n = (replica_of n).keeps

-- the index of the last entry that it has applied, and its databases
abbrev pub applied_of : Node → ℕ
applied_of n = n.running.applied.index

abbrev pub databases_of : Node → List Database
databases_of n = n.running.applied.machine

-- whether it has peer connections to other nodes
abbrev pub has_links : Node → Bool
has_links n = n.running.has_links
