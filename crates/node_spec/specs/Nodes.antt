-- A whole node as a value, and what it represents: a node of Raft's world with its whole log, and a life.
use Rattle.std.specs.Prelude.{[], false, ◌≡◌, ℕ, suc, ◌<◌, Bool, true, List, ◌++◌, take, drop}
use Rattle.database_state.specs.declared.database.Database.{Database}
use Rattle.database_state.specs.Machines.{IsMachine}
use Rattle.session_spec.specs.Machine.{machine_of}
use Rattle.wire_msgs.specs.declared.request.Request.{Request}
use Rattle.session_spec.specs.Restarts.{restarted, shifted}
use Rattle.session_spec.specs.Sessions.{Gateway, no_sessions}
use Rattle.session_safety.specs.Nodes.{Node as Life, databases, started}
use Rattle.raft_spec.specs.Log.{Entry}
use Rattle.raft_spec.specs.Node as raft
use Rattle.raft_spec.specs.NodeValues.{NodeValue, IsCoherent, node_of}
use Rattle.raft_spec.specs.Account.{Stored, stored_of, fresh}
use Rattle.raft_spec.specs.Compaction.{compacted}
use Rattle.raft_safety.specs.Cuts.{Same, Twin}
use Rattle.raft_safety.specs.Members.{Setup}
use Rattle.raft_membership.specs.Members.{Configurations}
use Rattle.applied_state.specs.Snapshot.{SpellsSnapshot, made_in}
use Rattle.store_laws.specs.Store.{Kept, no_snap}
use Rattle.cluster_model.specs.Clusters.{Coherent}

-- A node that runs: Raft's part, as the value of the code's, and the configurations of its whole log; its sessions, with the
-- databases of its state machine, and what each connection has asked that isn't handled yet; whether it serves; and what its disk has kept.
pub record Node : Type 0 where
  pub raft : NodeValue
  pub members : Configurations
  pub sessions : Gateway
  pub waiting : ℕ → List Request
  pub machine : List Database
  pub serving : Bool
  pub kept : Kept

-- ---- what is kept

-- The bytes are encoded as the snapshot of what these entries make: the configuration, and then the databases. So they read as that.
abbrev pub SnapshotOf : Setup → List Entry → List ℕ → Type 0
SnapshotOf setup front bytes = SpellsSnapshot (made_in setup front) bytes

-- What isn't compacted tells all of the whole log but the entries before the cut: how long it is, and which term it has where the
-- snapshot ends. This holds for each node in a run.
abbrev pub IsCutOff : Stored → Type 0
IsCutOff x = Same x.base x.snapshot.index x.log (compacted x.snapshot x.base ++ drop x.base x.log)

-- What is kept is what Raft's node has stored: term, vote, the log from its cut on, and a snapshot of the front up to its index.
pub record KeptIs (setup : Setup) (k : Kept) (x : Stored) : Type 0 where
  pub term : k.term ≡ x.term
  pub vote : k.vote ≡ x.vote
  pub log : k.log ≡ record { first = suc x.base; entries = drop x.base x.log }
  pub index : k.snap.index ≡ x.snapshot.index
  pub snap_term : k.snap.term ≡ x.snapshot.term
  pub bytes : 0 < x.snapshot.index → SnapshotOf setup (take x.snapshot.index x.log) k.snap.bytes

-- ---- what a node represents

-- The node represents a node of Raft with its whole log, and a life.
pub record Stands (setup : Setup) (n : Node) (s : raft.Node) (w : Life) : Type 0 where
  -- Raft's part is that node without what it has compacted
  pub twin : Twin s (node_of n.raft)
  pub raft : IsCoherent n.raft
  pub up : s.up ≡ true
  -- the life goes with it
  pub coherent : Coherent w s
  pub serving : w.serving ≡ n.serving
  -- sessions and databases are the life's, except for counts of commits
  pub machine : IsMachine n.machine
  pub lacks : List ℕ → ℕ
  pub since : List ℕ → ℕ
  pub files : databases w ≡ restarted lacks since (machine_of n.machine)
  pub sessions : w.gate ≡ shifted lacks n.sessions
  -- the disk has what Raft's node has stored
  pub kept : KeptIs setup n.kept (stored_of s)

-- a node that has kept nothing and was given no servers, and what it represents: so a node can represent something
abbrev pub first_node : ℕ → Node
first_node id = record {
  raft = record { id = id; term = 0; vote = 0; entries = []; role = raft.Follower; leader = 0; commit = 0; grants = []; servers = []; rows = []; snapshot = record { index = 0; term = 0 }; base = 0 };
  members = record { at = 0; servers = []; later = [] };
  sessions = no_sessions;
  waiting = λ conn. [];
  machine = [];
  serving = false;
  kept = record { term = 0; vote = 0; snap = no_snap; log = record { first = 1; entries = [] } };
}

abbrev pub FirstStands : Type 0
FirstStands = (setup : Setup) (id : ℕ) → Stands setup (first_node id) (fresh []) (started [] 0 0)
