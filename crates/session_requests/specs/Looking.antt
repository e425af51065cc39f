-- What code looks for in sessions and databases.
use Rattle.std.specs.Prelude.{◌==◌, ◌&&◌, ◌≡◌, ◌≤◌, ◌+◌, ◌*◌, ◌/◌, ℕ, Bool, List, length, insert, bytes_eq, if◌then◌else◌}
use Rattle.raft_spec.specs.Node.{Server}
use Rattle.session_spec.specs.Machine.{Machine, with_name}
use Rattle.session_spec.specs.Servers.{with_server}
use Rattle.session_spec.specs.Sessions.{Gateway}
use Rattle.session_spec.specs.Limits.{held_pages, opened_by, is_configuring}
use Rattle.session_table.specs.declared.session.Session.{Session}

-- the name belongs at this place among the names
pub record BelongsAt (name : List ℕ) (names : List (List ℕ)) (place : ℕ) : Type 0 where
  pub within : place ≤ length names
  pub joined : with_name name names ≡ insert names place name

-- the new database that a session's proposal is for
abbrev pub proposed_by : Session → List (List ℕ)
proposed_by s = opened_by s.flight

-- a server of this id belongs at this place among the servers
pub record StandsAt (id : ℕ) (servers : List Server) (place : ℕ) : Type 0 where
  pub within : place ≤ length servers
  pub joined : (new : Server) → new.id ≡ id → with_server new servers ≡ insert servers place new

-- a session's change of the cluster is pending
abbrev pub is_changing : Session → Bool
is_changing s = is_configuring s.flight

-- the server has this id, and votes
abbrev pub votes_as : ℕ → Server → Bool
votes_as id server = (server.role == 0) && (server.id == id)

-- the pages of a database other than the one of a name
abbrev pub pages_beside : Machine → Gateway → List ℕ → List ℕ → ℕ
pages_beside m g name other = if bytes_eq other name then 0 else held_pages m g other

-- how many bytes this many fill up to a whole word
abbrev pub padded : ℕ → ℕ
padded n = (n + 7) / 8 * 8

-- how many bytes the body with the files of a database has, by the lengths of its name and of the files
abbrev pub files_size : ℕ → ℕ → ℕ → ℕ
files_size name main side = 8 + (padded (name + 1) + (8 + padded main)) + (padded (name + 6) + (8 + padded side))
