-- The commit index of one step, exactly.
use Rattle.std.specs.Prelude.{◌≡◌, ◌⊎◌, ℕ, ◌+◌, ◌<◌, ◌≤◌, min, max, true, false, List, [], ◌∷◌, ◌++◌, length}
use Rattle.raft_spec.specs.Log.{Entry}
use Rattle.raft_spec.specs.Node.{What, AskVote, Vote, Append, Ack, Install, TimeoutNow, Node, is_leader, UseServers, Input, Propose, Local, Receive}
use Rattle.raft_spec.specs.Outcomes.{with_term}
use Rattle.raft_spec.specs.Commitment.{majority_stores}
use Rattle.raft_spec.specs.Steps.{raft_step}
use Rattle.raft_safety.specs.Members.{Setup, voters_after, may_take, member_step}

-- the greatest index that a majority has with an entry of the leader's term, or the old one if that isn't greater
pub record Exact (voters_of : List Entry → List ℕ) (me : ℕ) (old : ℕ) (t : Node) : Type 0 where
  pub is : (t.commit ≡ old) ⊎ ((old < t.commit) × (t.commit ≤ length t.log) × (majority_stores voters_of me t t.commit ≡ true))
  pub greatest : (k : ℕ) → t.commit < k → k ≤ length t.log → majority_stores voters_of me t k ≡ false

-- an input that tells other servers
abbrev pub Serves : Input → Type 0
Serves (Local (UseServers servers)) = Unit {0}
Serves i = ⊥

-- a leader's commit index after each step is exact; a step that gives it other servers leaves it
abbrev pub LeaderCommit : Type 0
LeaderCommit =
    (voters_of : List Entry → List ℕ) (me : ℕ) (s : Node) (i : Input) → is_leader (raft_step voters_of me s i).node.role ≡ true →
    Exact voters_of me s.commit (raft_step voters_of me s i).node ⊎ (Serves i × ((raft_step voters_of me s i).node.commit ≡ s.commit))

-- what a message may make of another node's commit index: an Append the smaller of its commit and its last index, an Install its index
abbrev pub CommitBy : What → ℕ → ℕ → Type 0
CommitBy (Append prev commit entries) old new = (new ≡ old) ⊎ (new ≡ max old (min commit (prev.index + length entries)))
CommitBy (Install last front) old new = (new ≡ old) ⊎ ((old < last.index) × (new ≡ last.index))
CommitBy (AskVote last transfer) old new = new ≡ old
CommitBy (Vote granted) old new = new ≡ old
CommitBy (Ack good index) old new = new ≡ old
CommitBy TimeoutNow old new = new ≡ old

-- what an input may make of it: only a message moves it
abbrev pub CommitOf : Input → ℕ → ℕ → Type 0
CommitOf (Local local) old new = new ≡ old
CommitOf (Receive m) old new = CommitBy m.what old new

-- the commit index of a node that doesn't lead is moved by an Append or an Install alone
abbrev pub OtherCommit : Type 0
OtherCommit =
    (voters_of : List Entry → List ℕ) (me : ℕ) (s : Node) (i : Input) → is_leader (raft_step voters_of me s i).node.role ≡ false →
    CommitOf i s.commit (raft_step voters_of me s i).node.commit

-- a leader that is the only voter commits what it proposes in the same step
abbrev pub AloneCommits : Type 0
AloneCommits =
    (voters_of : List Entry → List ℕ) (me : ℕ) (s : Node) (entries : List Entry) → is_leader s.role ≡ true → 0 < length entries →
    s.commit ≤ length s.log → voters_of (s.log ++ with_term s.term entries) ≡ me ∷ [] →
    (raft_step voters_of me s (Local (Propose entries))).node.commit ≡ length s.log + length entries

-- this holds at each step of the world, by the voters of the last configuration in the leader's log
abbrev pub CurrentVotersCommit : Type 0
CurrentVotersCommit =
    (setup : Setup) (n : ℕ) (s : Node) (i : Input) → may_take setup s i ≡ true → is_leader (member_step setup n s i).node.role ≡ true →
    Exact (voters_after setup) n s.commit (member_step setup n s i).node ⊎ (Serves i × ((member_step setup n s i).node.commit ≡ s.commit))
