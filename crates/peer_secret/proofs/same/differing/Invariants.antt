use Rattle.std.proofs.Common.{◌≡◌, ◌≤◌, take}
use Rattle.peer_secret.specs.Same.{differing}
use Rattle.peer_secret.proofs.same.differing.Given as goal

-- the places so far
abbrev pub invariant-loop-at : goal.invariant-loop-at
invariant-loop-at l = (l.count ≡ differing (take l.at l.left) (take l.at l.right)) × (l.count ≤ l.at)
