-- The rules' role of a node's role.
use Rattle.raft_spec.specs.Node as rules
use Rattle.raft_core.specs.declared.role.RaftRole.{RaftRole}
use Rattle.raft_core.specs.declared.role.RaftRole.TheVariants as roles

abbrev pub role_value : RaftRole → rules.Role
role_value roles.Leader = rules.Leader
role_value roles.Candidate = rules.Candidate
role_value roles.Follower = rules.Follower
