use Rattle.std.proofs.Common.{◌≡◌, ◌++◌, take, drop}
use Rattle.raft_membership.specs.Members.{below}
use Rattle.raft_membership.proofs.members.below_count.Given as goal

abbrev pub invariant-loop-n : goal.invariant-loop-n
invariant-loop-n l = below l.index l.changes ≡ take l.n l.changes ++ below l.index (drop l.n l.changes)
