-- No step takes a commit index back.
use Rattle.std.proofs.Common.{◌≡◌, inl, inr, ⊎_elim, ℕ, ◌<◌, ◌≤◌, true, false, List, arith}
use Rattle.std.proofs.lemmas.Bool.{cases_Bool}
use Rattle.raft_spec.specs.Log.{Entry}
use Rattle.raft_spec.specs.Node.{What, AskVote, Vote, Append, Ack, Install, TimeoutNow, Node, voters, is_leader, Input, Local, Receive}
use Rattle.raft_spec.specs.Commitment.{majority_stores}
use Rattle.raft_spec.specs.Steps.{raft_step}
use Rattle.raft_spec.specs.Compaction.{compacted_step}
use Rattle.raft_safety.specs.Commits.{Exact, CommitBy, CommitOf, Serves}
use Rattle.raft_safety.proofs.CommitSteps.{leader_commit_holds, other_commit_holds}

by_message : (w : What) (old new : ℕ) → CommitBy w old new → old ≤ new
by_message (AskVote last transfer) old new e = omega arith
by_message (Vote granted) old new e = omega arith
by_message (Append prev commit entries) old new (inl e) = omega arith
by_message (Append prev commit entries) old new (inr e) = omega arith
by_message (Ack good index) old new e = omega arith
by_message (Install last front) old new (inl e) = omega arith
by_message (Install last front) old new (inr e) = let lt = e.0 in let is = e.1 in omega arith
by_message TimeoutNow old new e = omega arith

by_input : (i : Input) (old new : ℕ) → CommitOf i old new → old ≤ new
by_input (Local local) old new e = omega arith
by_input (Receive m) old new e = by_message m.what old new e

same_up : (old new : ℕ) → new ≡ old → old ≤ new
same_up old new e = omega arith

raised : (voters_of : List Entry → List ℕ) (me : ℕ) (s : Node) (i : Input) → s.commit ≤ (raft_step voters_of me s i).node.commit
raised voters_of me s i =
    let t = (raft_step voters_of me s i).node in
    ⊎_elim
    (λ (l : is_leader t.role ≡ true). ⊎_elim
    (λ (x : Exact voters_of me s.commit t). ⊎_elim
    (λ (e : t.commit ≡ s.commit). same_up s.commit t.commit e)
    (λ (y : (s.commit < t.commit) × (t.commit ≤ _) × (majority_stores voters_of me t t.commit ≡ true)). let lt = y.0 in omega arith) x.is)
    (λ (y : Serves i × (t.commit ≡ s.commit)). same_up s.commit t.commit y.1) (leader_commit_holds voters_of me s i l))
    (λ (f : is_leader t.role ≡ false). by_input i s.commit t.commit (other_commit_holds voters_of me s i f))
    (cases_Bool (is_leader t.role))

pub commit_rises : (me : ℕ) (s : Node) (i : Input) → s.commit ≤ (compacted_step me s i).node.commit
unfolding compacted_step
commit_rises me s i = raised (λ log. voters s.servers) me s i
