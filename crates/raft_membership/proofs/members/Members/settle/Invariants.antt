use Rattle.std.proofs.Common.{◌≡◌, length}
use Rattle.raft_membership.specs.Members.{settled}
use Rattle.raft_membership.proofs.members.Members.settle.Given as goal

abbrev pub invariant-loop : goal.invariant-loop
invariant-loop l = settled l.self l.applied ≡ settled l.fn.self l.applied

abbrev pub decreases-loop : goal.decreases-loop
decreases-loop l = length l.self.later
