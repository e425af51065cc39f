-- What a node has applied: that of the front of a log, and of one more entry.
use Rattle.std.specs.Prelude.{◌≡◌, ℕ, suc, Bool, List, length}
use Rattle.std.specs.List.{list_all}
use Rattle.database_state.specs.declared.database.Database.{Database}
use Rattle.database_state.specs.Databases.{act}
use Rattle.database_state.specs.Pins.{Pinning, IsPinned}
use Rattle.raft_spec.specs.Log as raft
use Rattle.raft_spec.specs.Node.{Server}
use Rattle.raft_safety.specs.Members.{configuration}
use Rattle.raft_membership.specs.Members.{read_setup}
use Rattle.session_spec.specs.Entries.{Content, Does, Configures, Other}
use Rattle.session_spec.specs.Machine.{Machine, machine_of, files, is_named}
use Rattle.session_spec.specs.Restarts.{restarted}
use Rattle.session_spec.specs.Seen.{entry_seen, log_seen}
use Rattle.applied_state.specs.declared.applied.Applied.{Applied}

-- ---- one more entry

abbrev pub databases_after : List Database → Content → List Database
databases_after databases (Does command) = act databases command
databases_after databases (Configures servers) = databases
databases_after databases Other = databases

abbrev pub servers_after : List Server → Content → List Server
servers_after servers (Does command) = servers
servers_after servers (Configures others) = others
servers_after servers Other = servers

-- what is applied after the next entry, which is for this
abbrev pub with_content : Applied → Content → Applied
with_content a content = record {
  machine = databases_after a.machine content;
  servers = servers_after a.servers content;
  index = suc a.index;
}

abbrev pub with_entry : Applied → raft.Entry → Applied
with_entry a e = with_content a (entry_seen e).content

-- ---- the front of a log

-- databases are those of a node, except for what its counts of commits lack, and its counts of pages since a
-- checkpoint
abbrev pub ShowsFiles : (List ℕ → ℕ) → Machine → List Database → Type 0
ShowsFiles lacks m databases = (since : List ℕ → ℕ) × (m ≡ restarted lacks since (machine_of databases))

-- It is what these entries make, from the opening configuration and no databases on.
pub record HasApplied (opening : List Server) (lacks : List ℕ → ℕ) (front : List raft.Entry) (a : Applied) : Type 0 where
  pub index : a.index ≡ length front
  pub servers : a.servers ≡ configuration (read_setup opening) front
  pub databases : ShowsFiles lacks (files (log_seen front)) a.machine

-- ---- pins

-- no image of these databases is pinned
abbrev pub HasNoPins : List Database → Type 0
HasNoPins databases = (pin : Pinning) → IsPinned databases pin → ⊥

-- ---- names

-- each of these names is among those
abbrev pub has_names : List (List ℕ) → List (List ℕ) → Bool
has_names names others = list_all (λ (other : List ℕ). is_named names other) others
