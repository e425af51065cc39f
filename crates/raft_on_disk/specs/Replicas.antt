-- A replica as a value, and what its Raft's step makes of it.
use Rattle.std.specs.Prelude.{◌≡◌, ℕ, Bool, true, false, ◌<◌, ◌-◌, ◌++◌, cond, nat_lt, List, [], Option, Some, None}
use Rattle.raft_spec.specs.Log.{LogEnd, term_at}
use Rattle.raft_spec.specs.Node.{Node, Message}
use Rattle.raft_spec.specs.Todo.{IsBatch}
use Rattle.raft_spec.specs.NodeValues.{NodeValue, IsCoherent, node_of}
use Rattle.raft_spec.specs.Account.{Stored}
use Rattle.raft_spec.specs.Compaction.{compacted, compacted_step}
use Rattle.raft_messages.specs.declared.message.Snapshot.{Snapshot}
use Rattle.raft_core.specs.declared.event.RaftEvent.{RaftEvent}
use Rattle.raft_core.specs.declared.event.RaftEvent.TheVariants as events
use Rattle.raft_core.specs.Events.{input_of, offered}
use Rattle.disk_model.specs.Disk.{Disk}
use Rattle.disk_model.specs.Trait.{Text}
use Rattle.store_laws.specs.Store.{Snap, no_snap, Kept}
use Rattle.store_format.specs.FilesRead.{snap_kept}
use Rattle.segment_store.specs.Open.{Open}
use Rattle.raft_on_disk.specs.Terms.{HasTerm}
use Rattle.raft_on_disk.specs.Keeping.{kept_at, Has}

-- One node's Raft with its store: the id, Raft's part, the kept snapshot (index 0 without one), the store over the disk, and
-- how many times something was kept since the count began.
pub record ReplicaValue : Type 0 where
  pub id : ℕ
  pub raft : NodeValue
  pub snap : Snap
  pub store : Open
  pub keeps : ℕ

-- the end of a snapshot
abbrev pub end_of : Snap → LogEnd
end_of s = record { index = s.index; term = s.term }

-- a snapshot of index 0 is no snapshot: it has no term and no bytes
abbrev pub IsNoneAtZero : Snap → Type 0
IsNoneAtZero s = s.index ≡ 0 → s ≡ no_snap

-- What holds of a replica between two calls: Raft's part is of its id and coherent, its snapshot is the kept one, and who leads, stands or has committed past the
-- snapshot has a term. The kept snapshot of index 0 is no snapshot.
pub record IsWhole (r : ReplicaValue) : Type 0 where
  pub id : r.raft.id ≡ r.id
  pub coherent : IsCoherent r.raft
  pub snap : r.raft.snapshot ≡ end_of r.snap
  pub has_term : HasTerm (node_of r.raft)
  pub none : IsNoneAtZero r.snap

-- what the replica keeps
abbrev pub kept_of : ReplicaValue → Kept
kept_of r = kept_at (node_of r.raft) r.snap.bytes

-- the disk keeps what Raft is now, whatever a crash leaves
abbrev pub IsKept : Bool → (Disk Text → Type 0) → ReplicaValue → Type 0
IsKept tells states r = Has tells states r.store (kept_of r)

-- the event is another one than that of an own snapshot, which is kept before Raft is told
abbrev pub IsIntake : RaftEvent → Type 0
IsIntake (events.Snapped end) = ⊥
IsIntake event = Unit {0}

-- the node that Raft's step of an event leads to, and what it says
abbrev pub stepped : ReplicaValue → RaftEvent → Node
stepped r event = (compacted_step r.raft.id (node_of r.raft) (input_of event)).node

abbrev pub said : ReplicaValue → RaftEvent → List Message
said r event = (compacted_step r.raft.id (node_of r.raft) (input_of event)).out

-- the bytes of a snapshot, if there is one
abbrev pub bytes_in : Option Snapshot → List ℕ
bytes_in None = []
bytes_in (Some s) = s.bytes

-- the bytes of the snapshot that is kept after a step: those that came with one past the commit index, else the old ones
abbrev pub bytes_after : ReplicaValue → RaftEvent → List ℕ
bytes_after r event = cond (nat_lt r.raft.commit (stepped r event).snapshot.index) (bytes_in (offered event)) r.snap.bytes

-- the snapshot that is kept after a step: the very one that came, if it is past the commit index, else the old one
abbrev pub snap_after : ReplicaValue → RaftEvent → Snap
snap_after r event = cond (nat_lt r.raft.commit (stepped r event).snapshot.index) (snap_kept (offered event)) r.snap

-- What a step has changed of the log: a snapshot came past the commit index, or the entries are others from this index on, or nothing.
abbrev pub HasMoved : Node → Node → Option ℕ → Bool → Type 0
HasMoved s t batch true = (s.commit < t.snapshot.index) × (batch ≡ None)
HasMoved s t batch false = (t.snapshot ≡ s.snapshot) × IsBatch s.commit s.log t.log batch

-- how many times a step keeps something of the log
abbrev pub log_count : Option ℕ → Bool → ℕ
log_count batch true = 1
log_count None false = 0
log_count (Some first) false = 1

-- what the rules' node has stored then: of what is compacted only the number is known, and the term of the last one
abbrev pub stored_at : Kept → Stored
stored_at k = record {
  term = k.term;
  vote = k.vote;
  log = compacted (end_of k.snap) (k.log.first - 1) ++ k.log.entries;
  snapshot = end_of k.snap;
  base = k.log.first - 1;
  applied = k.snap.index;
}

-- the event by which Raft is told of an own snapshot at an index
abbrev pub snapped : ReplicaValue → ℕ → RaftEvent
snapped r index = events.Snapped (record { index = index; term = term_at (node_of r.raft).log index })

-- the own snapshot at an index
abbrev pub own_snap : ReplicaValue → ℕ → List ℕ → Snap
own_snap r index bytes = record { index = index; term = term_at (node_of r.raft).log index; bytes = bytes }
