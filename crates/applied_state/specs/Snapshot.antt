-- A node's snapshot: a format word, a configuration, and the snapshot of the databases.
use Rattle.std.specs.Prelude.{◌≡◌, ℕ, Bool, ◌&&◌, ◌==◌, nat_le, List, ◌++◌, length, drop, map, cond, Option, Some, None}
use Rattle.std.specs.Option.{option_map}
use Rattle.byteorder.specs.Endian.{little_number}
use Rattle.wire_words.specs.Items.{word}
use Rattle.raft_spec.specs.Log as raft
use Rattle.raft_spec.specs.Node.{Server}
use Rattle.raft_messages.specs.Servers.{servers_of, servers_bytes, WritesServers}
use Rattle.raft_safety.specs.Members.{Setup, configuration}
use Rattle.raft_membership.specs.Members.{read_setup}
use Rattle.database_state.specs.AsMap.{names_of}
use Rattle.database_state.specs.Databases.{contents_of}
use Rattle.database_state.specs.Files.{Content}
use Rattle.database_state.specs.Restoring.{snapshot_of, restored}
use Rattle.database_state.specs.Snapshot.{snapshot_text, IsSnapshot}
use Rattle.session_spec.specs.Machine.{Machine, files}
use Rattle.session_spec.specs.Seen.{log_seen}
use Rattle.applied_state.specs.declared.applied.Applied.{Applied}
use Rattle.applied_state.specs.Applied.{has_names, HasNoPins, HasApplied}
use Rattle.applied_state.specs.Reading.{servers_read, contents_read, IsMachineIf}

-- what it says: the servers of a node, and its databases with what they show
pub record NodeSnapshot : Type 0 where
  pub servers : List Server
  pub contents : List Content

-- what a node's snapshot says of what it has applied
abbrev pub snapshot_value : Applied → NodeSnapshot
snapshot_value a = record { servers = a.servers; contents = contents_of a.machine }

-- The format word. A snapshot without one begins with the number of its servers, which is at most 9.
abbrev pub snapshot_format : ℕ
snapshot_format = 258

abbrev pub has_format : List ℕ → Bool
has_format bytes = nat_le 8 (length bytes) && (little_number 8 bytes == snapshot_format)

-- what follows the format word if there is one: the configuration and the snapshot of the databases
unfoldable pub snapshot_body : List ℕ → List ℕ
snapshot_body bytes = cond (has_format bytes) (drop 8 bytes) bytes

-- a snapshot as it is written
abbrev pub snapshot_bytes : List Server → List Content → List ℕ
snapshot_bytes servers contents = word snapshot_format ++ (servers_bytes servers ++ snapshot_text contents)

-- The bytes are a node's snapshot, of these servers and databases, with a format word or without one.
pub record SpellsSnapshot (s : NodeSnapshot) (bytes : List ℕ) : Type 0 where
  pub servers : WritesServers s.servers (servers_bytes s.servers)
  pub databases : IsSnapshot s.contents (snapshot_text s.contents)
  pub parts : snapshot_body bytes ≡ servers_bytes s.servers ++ snapshot_text s.contents

-- ---- reading

abbrev pub with_databases : List Server → Option (List Content) → Option NodeSnapshot
with_databases servers contents = option_map (λ (c : List Content). record { servers = servers; contents = c }) contents

abbrev pub of_parts : List ℕ → Option (List Server × ℕ) → Option NodeSnapshot
of_parts bytes (Some read) = with_databases read.0 (contents_read (snapshot_of (drop read.1 bytes)))
of_parts bytes None = None

-- the node's snapshot that the bytes are, and None where they are none
unfoldable pub snapshot_in : List ℕ → Option NodeSnapshot
snapshot_in bytes = of_parts (snapshot_body bytes) (servers_read (servers_of (snapshot_body bytes)))

-- What was read has the servers and databases of the snapshot, its index, no commits and no live marks.
pub record IsRestored (index : ℕ) (bytes : List ℕ) (a : Applied) : Type 0 where
  pub index_is : a.index ≡ index
  pub spelled : SpellsSnapshot (snapshot_value a) bytes
  pub fresh : a.machine ≡ restored (contents_of a.machine)

abbrev pub IsRestoredIf : ℕ → List ℕ → Option Applied → Type 0
IsRestoredIf index bytes None = Unit {0}
IsRestoredIf index bytes (Some a) = IsRestored index bytes a

-- what is offered to a node with databases of these names: nothing if the snapshot lacks one of them
abbrev pub offered_to : List (List ℕ) → Option NodeSnapshot → Option NodeSnapshot
offered_to names (Some s) = cond (has_names (names_of s.contents) names) (Some s) None
offered_to names None = None

-- ---- of the front of a log

-- databases as a snapshot has them, in the order of their names
abbrev pub contents_in : Machine → List Content
contents_in m = map (λ (name : List ℕ). record { name = name; image = (m.base name).image; pending = (m.base name).pending }) m.names

-- what these entries make, as a snapshot says it
abbrev pub made_in : Setup → List raft.Entry → NodeSnapshot
made_in setup front = record { servers = configuration setup front; contents = contents_in (files (log_seen front)) }

abbrev pub made_by : List Server → List raft.Entry → NodeSnapshot
made_by opening front = made_in (read_setup opening) front

-- the counts of commits after these entries
abbrev pub commits_of : List raft.Entry → List ℕ → ℕ
commits_of front name = ((files (log_seen front)).base name).newest

abbrev pub HasNoPinsIf : Option Applied → Type 0
HasNoPinsIf None = Unit {0}
HasNoPinsIf (Some a) = HasNoPins a.machine

abbrev pub HasAppliedIf : List Server → (List ℕ → ℕ) → List raft.Entry → Option Applied → Type 0
HasAppliedIf opening lacks front None = Unit {0}
HasAppliedIf opening lacks front (Some a) = HasApplied opening lacks front a

-- ---- what its parts give

abbrev pub IsBehind : ℕ → List Server → List ℕ → Option Applied → Type 0
IsBehind index servers bytes None = Unit {0}
IsBehind index servers bytes (Some a) = (a.index ≡ index) × (a.servers ≡ servers) × IsMachineIf bytes (Some a.machine)

abbrev pub IsSameIf : Applied → Option Applied → Type 0
IsSameIf a None = Unit {0}
IsSameIf a (Some b) = b ≡ a
