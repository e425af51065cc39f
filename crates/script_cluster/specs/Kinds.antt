-- The kinds of messages between nodes and the roles of nodes, and how they are named.
use Rattle.std.specs.Prelude.{ℕ, List, codes}
use Rattle.raft_spec.specs.Node as rules
use Rattle.raft_core.specs.declared.role.RaftRole.{RaftRole}
use Rattle.raft_core.specs.declared.role.RaftRole.TheVariants as roles
use Rattle.raft_messages.specs.declared.message.MessageBody.{MessageBody}
use Rattle.raft_messages.specs.declared.message.MessageBody.TheVariants as whats
use Rattle.script_cluster.specs.declared.cluster_line.MessageKind.{MessageKind}
use Rattle.script_cluster.specs.declared.cluster_line.MessageKind.TheVariants as kinds
use Rattle.script_cluster.specs.declared.cluster_line.DownCause.{DownCause}
use Rattle.script_cluster.specs.declared.cluster_line.DownCause.TheVariants as causes

abbrev pub kind_of : MessageBody → MessageKind
kind_of (whats.AskVote last transfer) = kinds.AskVote
kind_of (whats.Vote granted) = kinds.Vote
kind_of (whats.Append prev commit entries) = kinds.Append
kind_of (whats.Ack good index) = kinds.Ack
kind_of (whats.Install snapshot) = kinds.Install
kind_of whats.TimeoutNow = kinds.TimeoutNow

abbrev pub kind_name : MessageKind → List ℕ
kind_name kinds.AskVote = codes "AskVote"
kind_name kinds.Vote = codes "Vote"
kind_name kinds.Append = codes "Append"
kind_name kinds.Ack = codes "Ack"
kind_name kinds.Install = codes "Install"
kind_name kinds.TimeoutNow = codes "TimeoutNow"

abbrev pub cause_number : DownCause → ℕ
cause_number causes.DiskFault = 1
cause_number causes.Unreadable = 2

-- a node's role, as the code has it
abbrev pub role_of : rules.Role → RaftRole
role_of rules.Leader = roles.Leader
role_of rules.Candidate = roles.Candidate
role_of rules.Follower = roles.Follower

abbrev pub role_name : RaftRole → List ℕ
role_name roles.Leader = codes "leader"
role_name roles.Candidate = codes "candidate"
role_name roles.Follower = codes "follower"
