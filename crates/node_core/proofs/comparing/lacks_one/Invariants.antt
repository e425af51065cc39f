use Rattle.std.proofs.Common.{ℕ, ◌<◌}
use Rattle.node_core.specs.Voters.{LacksAt}
use Rattle.node_core.proofs.comparing.lacks_one.Given as goal

abbrev pub invariant-loop-place : goal.invariant-loop-place
invariant-loop-place l = (i : ℕ) → i < l.place → LacksAt i l.fewer l.more → ⊥
