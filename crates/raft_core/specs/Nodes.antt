-- What holds of the parts of every node.
use Rattle.std.specs.Prelude.{◌≡◌, ℕ, ◌+◌, ◌≤◌, List, length}
use Rattle.raft_spec.specs.Log.{Entry, LogEnd}
use Rattle.raft_spec.specs.Node as rules
use Rattle.raft_spec.specs.Compaction.{CutLog}
use Rattle.raft_spec.specs.Progress.{LeaderProgress, ids_in}
use Rattle.raft_spec.specs.NodeValues.{NodeValue}
use Rattle.raft_messages.specs.Grants.{AreAmong}
use Rattle.raft_messages.specs.Servers.{IsConfiguration}

-- the voters that a node was given, whatever its log
abbrev pub told : NodeValue → List Entry → List ℕ
told h log = rules.voters h.servers

-- the log: the cut is not past the snapshot, the snapshot is applied, what is applied is in the log, and a cut at the snapshot's end has its term
pub record IsLog (l : CutLog) (commit : ℕ) (snapshot : LogEnd) : Type 0 where
  pub low : l.first.index ≤ snapshot.index
  pub applied : snapshot.index ≤ commit
  pub within : commit ≤ l.first.index + length l.entries
  pub cut : l.first.index ≡ snapshot.index → l.first.term ≡ snapshot.term

-- the servers: they may stand together, and their voters and peers are at hand; each peer has its row
pub record IsMembership (id : ℕ) (servers : List rules.Server) (voting sent : List ℕ) (progress : LeaderProgress) : Type 0 where
  pub config : IsConfiguration servers
  pub voters : voting ≡ rules.voters servers
  pub peers : sent ≡ rules.peers servers id
  pub own : progress.own ≡ id
  pub counted : progress.voters ≡ rules.voters servers
  pub rows : ids_in progress.rows ≡ rules.peers servers id

-- a candidate has votes of voters alone
abbrev pub HasVoters : rules.Role → List ℕ → List rules.Server → Type 0
HasVoters role grants servers = role ≡ rules.Candidate → AreAmong grants (rules.voters servers)
