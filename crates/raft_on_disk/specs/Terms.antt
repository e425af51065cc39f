-- Terms of nodes.
use Rattle.std.specs.Prelude.{◌≢◌, ◌<◌}
use Rattle.raft_spec.specs.Node.{Follower, Node}

-- who leads or stands for election, or has committed past its snapshot, has a term
abbrev pub HasTerm : Node → Type 0
HasTerm s = (s.role ≢ Follower → s.term ≢ 0) × (s.snapshot.index < s.commit → s.term ≢ 0)
