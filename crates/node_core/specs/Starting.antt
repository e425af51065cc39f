-- What a start answers and leaves.
use Rattle.std.specs.Prelude.{◌≡◌, ◌⊎◌, ℕ, suc, ◌-◌, ◌<◌, true, false, List, [], ◌++◌, length, drop, None, Result, Ok, Err}
use Rattle.disk_model.specs.Disk.{Disk}
use Rattle.disk_model.specs.Trait.{Text}
use Rattle.store_laws.specs.Store.{Snap, Kept, Loaded}
use Rattle.segment_store.specs.declared.load_fault.LoadFault.TheVariants as load
use Rattle.segment_store.specs.Open.{Open}
use Rattle.segment_store.specs.Keeps.{folder}
use Rattle.segment_store.specs.Loading.{kept_in, IsSeen, IsLoaded, StaysSeen, LoadLeaves}
use Rattle.raft_spec.specs.Account.{loaded}
use Rattle.raft_spec.specs.Log.{Entry}
use Rattle.raft_spec.specs.Node.{Server}
use Rattle.raft_spec.specs.NodeValues as values
use Rattle.raft_messages.specs.Servers.{IsConfiguration}
use Rattle.raft_safety.specs.Members.{configuration}
use Rattle.raft_membership.specs.Members.{Configurations, IsOf, last_servers, read_setup}
use Rattle.database_state.specs.Machines.{IsMachine}
use Rattle.session_spec.specs.Sessions.{no_sessions, View}
use Rattle.client_sessions.specs.Clients.{no_clients}
use Rattle.client_sessions.specs.Seen.{Agrees, AreValidOver}
use Rattle.store_format.specs.Starts.{CanStart}
use Rattle.raft_on_disk.specs.Replicas.{ReplicaValue, stored_at}
use Rattle.applied_state.specs.declared.applied.Applied.{Applied}
use Rattle.applied_state.specs.Applied.{HasApplied, HasNoPins}
use Rattle.applied_state.specs.Snapshot.{SpellsSnapshot, snapshot_value, made_by, snapshot_in, commits_of}
use Rattle.node_spec.specs.Nodes.{Node as RuleNode}
use Rattle.node_spec.specs.Steps.{CompletesStart}
use Rattle.node_core.specs.declared.node.Node.{Node}
use Rattle.node_core.specs.declared.running.Running.{Running}
use Rattle.node_core.specs.declared.fault.StartFault.{StartFault}
use Rattle.node_core.specs.declared.fault.StartFault.TheVariants as start
use Rattle.node_core.specs.Values.{clients_in, kept_by, replica_of}
use Rattle.node_core.specs.Whole.{IsQuiet}

-- ---- the node that starts

-- What is applied where a node starts: what its snapshot says, or nothing with the servers of the opening.
pub record AppliesKept (opening : List Server) (snap : Snap) (a : Applied) : Type 0 where
  pub index : a.index ≡ snap.index
  pub servers : IsConfiguration a.servers
  pub none : snap.index ≡ 0 → a.servers ≡ opening
  pub spelled : 0 < snap.index → SpellsSnapshot (snapshot_value a) snap.bytes
  pub unpinned : HasNoPins a.machine
  pub applied : (front : List Entry) → length front ≡ snap.index → (0 < snap.index → SpellsSnapshot (made_by opening front) snap.bytes) →
      (lacks : List ℕ → ℕ) × HasApplied opening lacks front a

-- What a start makes of what was kept, with these servers: Raft's part is that which is loaded, and no client is there; it has applied
-- what the snapshot says, has the configurations of the log with the kept entries after that, and was given the last of them.
pub record Begun (opening servers : List Server) (kept : Kept) (n : RuleNode) (a : Applied) : Type 0 where
  pub raft : values.node_of n.raft ≡ loaded true servers (stored_at kept)
  pub coherent : values.IsCoherent n.raft
  pub machine_is : n.machine ≡ a.machine
  pub machine : IsMachine n.machine
  pub serving : n.serving ≡ false
  pub sessions : n.sessions ≡ no_sessions
  pub waiting : (conn : ℕ) → n.waiting conn ≡ []
  pub kept_is : n.kept ≡ kept
  pub starts : CanStart kept
  pub applies : AppliesKept opening kept.snap a
  pub members : (first : List Server) (front : List Entry) → length front ≡ kept.snap.index → configuration (read_setup first) front ≡ a.servers →
      IsOf (read_setup first) (front ++ drop (suc kept.snap.index - kept.log.first) kept.log.entries) n.members
  pub current : servers ≡ last_servers n.members

-- that is enough: it represents each node that has stored what was kept, as it is loaded, and a life that begins
abbrev pub BegunStands : Type 0
BegunStands = (opening servers : List Server) (kept : Kept) (n : RuleNode) (a : Applied) → Begun opening servers kept n a →
    CompletesStart (read_setup opening) kept n servers

-- These are the parts of a node that has started: no client is there, nothing is due, and nothing is said.
pub record HasStarted (replica : ReplicaValue) (members : Configurations) (applied : Applied) (view : View) (n : Running) : Type 0 where
  pub replica_is : n.replica ≡ replica
  pub members_are : n.members ≡ members
  pub applied_is : n.applied ≡ applied
  pub view_is : n.view ≡ view
  pub clients : clients_in n ≡ no_clients
  pub stand : AreValidOver n.clients n.applied.machine
  pub machine : IsMachine n.applied.machine
  pub agrees : Agrees [] n.clients n.applied.machine
  pub office : n.office ≡ None
  pub idle : n.due.items ≡ []
  pub heard : n.heard ≡ None
  pub quiet : IsQuiet n

-- it has applied the front of a log of which these bytes are the snapshot up to this index
abbrev pub ShowsFront : ℕ → List ℕ → Applied → Type 0
ShowsFront index bytes a = (opening : List Server) (front : List Entry) → length front ≡ index → SpellsSnapshot (made_by opening front) bytes →
    HasApplied opening (commits_of front) front a

-- ---- the disk

-- the disk may be loaded again, and represents the same
abbrev pub StaysKept : Disk Text → Disk Text → Type 0
StaysKept d e = StaysSeen (folder d) (folder e) ⊎ ((s : Open) × ((k : Kept) × IsLoaded s k (folder d) (folder e)))

-- the snapshot that is kept up to this index, which isn't 0, isn't a node's
pub record SnapshotUnread (index : ℕ) (d : Disk Text) : Type 0 where
  pub kept : Kept
  pub reads : kept_in (folder d).read ≡ Loaded kept
  pub at_is : kept.snap.index ≡ index
  pub some : 0 < index
  pub unread : snapshot_in kept.snap.bytes ≡ None

-- why there is no node over a snapshot that was loaded: there is one, and it isn't a node's; or memory ran out
abbrev pub IsUnread : ℕ → List ℕ → StartFault → Type 0
IsUnread index bytes (start.Snapshot at) = (at ≡ index) × (0 < at) × (snapshot_in bytes ≡ None)
IsUnread index bytes start.NoMemory = Unit {0}
IsUnread index bytes start.DiskFault = ⊥
IsUnread index bytes (start.Damaged fault) = ⊥

-- The disk before a start and after it, by its answer: a node over what was kept; or why there is none, and all stays kept.
abbrev pub StartLeaves : Result Node StartFault → Disk Text → Disk Text → Type 0
StartLeaves (Ok node) d e = IsLoaded (replica_of node).store (kept_by node) (folder d) (folder e)
StartLeaves (Err (start.Damaged load.DiskFault)) d e = ⊥
StartLeaves (Err (start.Damaged load.NoMemory)) d e = ⊥
StartLeaves (Err (start.Damaged fault)) d e = LoadLeaves (Err fault) d e
StartLeaves (Err (start.Snapshot index)) d e = SnapshotUnread index d × StaysKept d e
StartLeaves (Err start.DiskFault) d e = StaysKept d e
StartLeaves (Err start.NoMemory) d e = StaysKept d e

-- from each state that the disk may be said to be in
pub record StartsOver (before after : Disk Text → Type 0) (result : Result Node StartFault) : Type 0 where
  pub each : (d : Disk Text) → before d → IsSeen (folder d) → (e : Disk Text) × (after e × StartLeaves result d e)
