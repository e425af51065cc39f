-- Which bytes a node's snapshot has after each step of an event: so its configuration and its databases are known.
use Rattle.std.specs.Prelude.{◌≡◌, ℕ, suc, ◌<◌, ◌≤◌, List, take, slice_get, Some}
use Rattle.raft_spec.specs.Node as raft
use Rattle.raft_spec.specs.Account.{steps}
use Rattle.raft_safety.specs.Members.{Setup, member_step}
use Rattle.node_spec.specs.Nodes.{Node, SnapshotOf}
use Rattle.node_spec.specs.Steps.{Taken, TakesIn}

-- the bytes are the snapshot of the front up to which the node's snapshot stands, if it has one
abbrev pub SnapshotIs : Setup → raft.Node → List ℕ → Type 0
SnapshotIs setup s bytes = 0 < s.snapshot.index → SnapshotOf setup (take s.snapshot.index s.log) bytes

-- the node after this many steps
abbrev pub after : Setup → ℕ → raft.Node → List raft.Input → ℕ → raft.Node
after setup me s is k = steps (member_step setup me) s (take k is)

-- A step that leaves the snapshot leaves the front that it represents, which is applied.
abbrev pub SnapshotsStay : Type 0
SnapshotsStay =
    (setup : Setup) (me : ℕ) (old : Node) (s : raft.Node) (is : List raft.Input) (x : Taken) (k : ℕ) (bytes : List ℕ) → TakesIn setup me old s is x →
    (after setup me s is k).snapshot.index ≤ (after setup me s is k).commit → (after setup me s is (suc k)).snapshot ≡ (after setup me s is k).snapshot →
    SnapshotIs setup (after setup me s is k) bytes → SnapshotIs setup (after setup me s is (suc k)) bytes

-- If a message has one past the commit index put in place, it is the one whose bytes came.
abbrev pub SnapshotsCome : Type 0
SnapshotsCome =
    (setup : Setup) (me : ℕ) (old : Node) (s : raft.Node) (is : List raft.Input) (x : Taken) (k : ℕ) (m : raft.Message) → TakesIn setup me old s is x → slice_get is k ≡ Some (raft.Receive m) →
    (after setup me s is k).snapshot.index ≤ (after setup me s is k).commit → (after setup me s is k).commit < (after setup me s is (suc k)).snapshot.index →
    SnapshotIs setup (after setup me s is (suc k)) x.bytes

-- An own snapshot at an applied index, of which these are the bytes.
abbrev pub SnapshotsTaken : Type 0
SnapshotsTaken =
    (setup : Setup) (me : ℕ) (old : Node) (s : raft.Node) (is : List raft.Input) (x : Taken) (k index : ℕ) (bytes : List ℕ) → TakesIn setup me old s is x →
    index ≤ (after setup me s is k).commit → (after setup me s is (suc k)).snapshot.index ≡ index →
    SnapshotOf setup (take index (after setup me s is k).log) bytes → SnapshotIs setup (after setup me s is (suc k)) bytes
