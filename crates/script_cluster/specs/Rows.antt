-- Whole scripts, from their bytes to what is said and at which fault they end: worked examples and scripts with a fault.
use Rattle.std.specs.Prelude.{◌≡◌, ℕ, true, false, List, [], ◌∷◌, codes, Option, Some, None}
use Rattle.raft_spec.specs.Node.{Leader, Candidate, Follower}
use Rattle.raft_core.specs.declared.role.RaftRole.TheVariants as roles
use Rattle.raft_messages.specs.declared.message.MessageBody.TheVariants as whats
use Rattle.file_digest.specs.Digest.{digest}
use Rattle.script_cluster.specs.declared.cluster_line.ClusterLine.{ClusterLine}
use Rattle.script_cluster.specs.declared.cluster_line.ClusterLine.TheVariants as says
use Rattle.script_cluster.specs.declared.cluster_line.MessageKind.TheVariants as kinds
use Rattle.script_cluster.specs.declared.cluster_line.DownCause.TheVariants as causes
use Rattle.script_cluster.specs.Outcomes.{Ending, Steps, Stops, Fails, Outcome}
use Rattle.script_cluster.specs.Examples.{stands, sends, started, message, ask}
use Rattle.script_cluster.specs.Run.{Fault, Line, run, printed}

-- the script says this with what came of its events, and ends so
pub record Says (script : List ℕ) (outcomes : List Outcome) (said : List ClusterLine) (fault : Option Fault) : Type 0 where
  pub says_so : (run script outcomes).said ≡ said
  pub ends_so : (run script outcomes).fault ≡ fault

-- ---- two candidates

abbrev pub candidates_outcomes : List Outcome
candidates_outcomes =
    started 0 0 ∷ started 0 0 ∷ started 0 0
    ∷ sends (ask 1 2 ∷ ask 1 3 ∷ []) (stands 1 Candidate 0)
    ∷ sends (ask 2 1 ∷ ask 2 3 ∷ []) (stands 1 Candidate 0)
    ∷ sends (message 3 1 (whats.Vote true) ∷ []) (stands 1 Follower 0)
    ∷ sends (message 3 2 (whats.Vote false) ∷ []) (stands 1 Follower 0)
    ∷ []

abbrev pub CandidatesSaid : Type 0
CandidatesSaid =
    Says (codes "nodes 3\ntimeout 1\ntimeout 2\ndeliver 2\ndeliver 4\n") candidates_outcomes
    (says.Message 1 1 2 kinds.AskVote ∷ says.Message 2 1 3 kinds.AskVote ∷ says.Message 3 2 1 kinds.AskVote ∷ says.Message 4 2 3 kinds.AskVote
    ∷ says.Message 5 3 1 kinds.Vote ∷ says.Message 6 3 2 kinds.Vote
    ∷ says.Node 1 1 roles.Candidate 0 (digest []) ∷ says.Node 2 1 roles.Candidate 0 (digest []) ∷ says.Node 3 1 roles.Follower 0 (digest []) ∷ [])
    None

-- ---- a start that is stopped, and one whose disk call fails

abbrev pub failing_outcomes : Ending → List Outcome
failing_outcomes ending = started 0 0 ∷ sends [] (stands 1 Leader 1) ∷ record { answers = []; ending = ending } ∷ started 1 1 ∷ []

abbrev pub StoppedSaid : Type 0
StoppedSaid =
    Says (codes "nodes 1\ntimeout 1\ncrash 1\nstop 1 0 start 1\nstart 1\n") (failing_outcomes (Stops 0))
    (says.Stopped 1 ∷ says.Node 1 1 roles.Follower 0 (digest []) ∷ []) None

abbrev pub FailedSaid : Type 0
FailedSaid =
    Says (codes "nodes 1\ntimeout 1\ncrash 1\nfail 1 start 1\nstart 1") (failing_outcomes (Fails 0))
    (says.Down 1 causes.DiskFault ∷ says.Node 1 1 roles.Follower 0 (digest []) ∷ []) None

-- ---- scripts with a fault

abbrev pub MissingSaid : Type 0
MissingSaid = Says (codes "nodes 1\ncrash 2\n") (started 0 0 ∷ []) [] (Some (Line 2))

abbrev pub NoNodesSaid : Type 0
NoNodesSaid = Says (codes "nodes 0\n") [] [] (Some (Line 1))

-- a node that is down is shown, and a line is in the wrong mode
abbrev pub PutSaid : Type 0
PutSaid = Says (codes "# a\n\nnodes 1\ncrash 1\nshow 1\nput 00\n") (started 0 0 ∷ []) (says.NodeDown 1 ∷ []) (Some (Line 6))

-- as it is printed
abbrev pub PutPrints : Type 0
PutPrints = printed (run (codes "# a\n\nnodes 1\ncrash 1\nshow 1\nput 00\n") (started 0 0 ∷ [])) ≡ codes "node 1 down\nerror line 6\n"

abbrev pub EmptySaid : Type 0
EmptySaid = Says [] [] [] None

-- ---- a client asks for the leader, and none is known

-- server 0 without an address
abbrev pub no_leader : List ℕ
no_leader = 2 ∷ 0 ∷ 0 ∷ 0 ∷ 1 ∷ 0 ∷ 0 ∷ 0 ∷ 0 ∷ 0 ∷ 0 ∷ 0 ∷ 0 ∷ 0 ∷ 0 ∷ 0 ∷ 0 ∷ 0 ∷ 0 ∷ 0 ∷ 0 ∷ 0 ∷ 0 ∷ 0 ∷ []

abbrev pub answers : List (ℕ × List ℕ) → Outcome
answers replies = record { answers = []; ending = Steps (record { replies = replies; closed = []; messages = [] }) (stands 0 Follower 0) }

abbrev pub AskingSaid : Type 0
AskingSaid =
    Says (codes "nodes 1\nconnect 1 1\nbytes 1 010000000000000001000000000000000000000000000000\n") (started 0 0 ∷ answers [] ∷ answers ((1, no_leader)
    ∷ []) ∷ [])
    (says.Reply 1 no_leader ∷ says.Node 1 0 roles.Follower 0 (digest []) ∷ []) None
