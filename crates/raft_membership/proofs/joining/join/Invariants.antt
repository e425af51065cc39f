use Rattle.std.proofs.Common.{◌≡◌, ◌+◌, take}
use Rattle.raft_membership.specs.Members.{Joined}
use Rattle.raft_membership.proofs.joining.join.Given as goal

abbrev pub invariant-loop-entry : goal.invariant-loop-entry
invariant-loop-entry l = Joined l.fn.members l.members l.first (take l.entry-index l.entries) l.told × (l.index ≡ l.first + l.entry-index)
