-- The value of the code's node: plain data, since a contract's value holds no function; and the node of the rules that it represents.
use Rattle.std.specs.Prelude.{◌≡◌, ℕ, ◌+◌, ◌≤◌, true, List, ◌++◌, length}
use Rattle.raft_spec.specs.Log.{Entry, LogEnd}
use Rattle.raft_spec.specs.Node.{Role, Node, Server, peers}
use Rattle.raft_spec.specs.Compaction.{compacted}
use Rattle.raft_spec.specs.Progress.{PeerProgress, next_in, match_in, ids_in}

-- What the code's node holds.
pub record NodeValue : Type 0 where
  pub id : ℕ
  pub term : ℕ
  pub vote : ℕ
  -- the entries past the cut
  pub entries : List Entry
  pub role : Role
  pub leader : ℕ
  pub commit : ℕ
  pub grants : List ℕ
  pub servers : List Server
  pub rows : List PeerProgress
  pub snapshot : LogEnd
  pub base : ℕ

-- The node of the rules: its log is whole, its progress a look-up.
abbrev pub node_of : NodeValue → Node
node_of h = record {
  up = true;
  term = h.term;
  vote = h.vote;
  log = compacted h.snapshot h.base ++ h.entries;
  role = h.role;
  leader = h.leader;
  commit = h.commit;
  grants = h.grants;
  servers = h.servers;
  next_of = next_in h.rows;
  match_of = match_in h.rows;
  snapshot = h.snapshot;
  base = h.base;
}

-- What holds of every node: the cut is not past the snapshot, the snapshot is applied, what is applied is in the log, and each peer has its row.
pub record IsCoherent (h : NodeValue) : Type 0 where
  pub low : h.base ≤ h.snapshot.index
  pub applied : h.snapshot.index ≤ h.commit
  pub within : h.commit ≤ h.base + length h.entries
  pub rows : ids_in h.rows ≡ peers h.servers h.id
