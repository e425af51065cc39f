-- How ADD, ASSIGN and REMOVE change the servers of the cluster: one server at a time, ids ascending.
use Rattle.std.specs.Prelude.{ℕ, Bool, not, ◌&&◌, ◌==◌, nat_lt, List, [], ◌∷◌, map, bytes_eq, Option, Some, None, if◌then◌else◌}
use Rattle.std.specs.List.{filter, list_any}
use Rattle.raft_spec.specs.Node.{Server}

-- a server has this id
abbrev pub has_server : List Server → ℕ → Bool
has_server servers id = list_any (λ (server : Server). server.id == id) servers

-- the server of this id is a spare
abbrev pub is_spare : List Server → ℕ → Bool
is_spare servers id = list_any (λ (server : Server). (server.id == id) && (server.role == 2)) servers

-- a server has this address
abbrev pub has_address : List Server → List ℕ → Bool
has_address servers address = list_any (λ (server : Server). bytes_eq address server.address) servers

-- the server of the id, if there is one
abbrev pub server_of : List Server → ℕ → Option Server
server_of [] id = None
server_of (server ∷ servers) id = if server.id == id then Some server else server_of servers id

-- a new server in front of those with a greater id
abbrev pub with_server : Server → List Server → List Server
with_server new [] = new ∷ []
with_server new (server ∷ servers) = if nat_lt new.id server.id then new ∷ server ∷ servers else server ∷ with_server new servers

-- the server with another role, if it has the id
abbrev pub in_role : ℕ → ℕ → Server → Server
in_role id role server = if server.id == id then record { id = server.id; address = server.address; role = role } else server

abbrev pub with_role : ℕ → ℕ → List Server → List Server
with_role id role servers = map (in_role id role) servers

abbrev pub without_server : ℕ → List Server → List Server
without_server id servers = filter (λ (server : Server). not (server.id == id)) servers
