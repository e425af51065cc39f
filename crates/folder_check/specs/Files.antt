-- The databases that what a node has kept represents.
use Rattle.std.specs.Prelude.{ℕ, ◌-◌, ◌==◌, nat_lt, cond, List, [], drop, fold, Option, Some}
use Rattle.std.specs.Option.{option_map}
use Rattle.raft_spec.specs.Log as raft
use Rattle.database_state.specs.Files.{Content, act}
use Rattle.session_spec.specs.Entries as seen
use Rattle.session_spec.specs.Seen.{entry_seen}
use Rattle.store_laws.specs.Store.{Snap, Log}
use Rattle.applied_state.specs.Snapshot.{NodeSnapshot, snapshot_in}

-- ---- a node's snapshot

-- The databases of the node's snapshot that the bytes are; None says that they are none.
unfoldable pub databases_of : List ℕ → Option (List Content)
databases_of bytes = option_map (λ (s : NodeSnapshot). s.contents) (snapshot_in bytes)

-- the databases at the kept snapshot; index 0 is no snapshot, and there are none
abbrev pub databases_at : Snap → Option (List Content)
databases_at snap = cond (snap.index == 0) (Some []) (databases_of snap.bytes)

-- ---- entries

-- what an entry is for does this to the databases
abbrev pub after_content : List Content → seen.Content → List Content
after_content contents (seen.Does command) = act contents command
after_content contents (seen.Configures servers) = contents
after_content contents seen.Other = contents

abbrev pub after_entry : List Content → raft.Entry → List Content
after_entry contents entry = after_content contents (entry_seen entry).content

-- the databases after entries, one by one
abbrev pub after_entries : List Content → List raft.Entry → List Content
after_entries contents entries = fold after_entry contents entries

-- the entries of a log that lie after an index
abbrev pub entries_behind : ℕ → Log → List raft.Entry
entries_behind index log = cond (nat_lt index log.first) log.entries (drop 1 (drop (index - log.first) log.entries))
