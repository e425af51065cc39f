use Rattle.std.proofs.Common.{◌≡◌, ◌++◌, ℕ, map, take}
use Rattle.script_cluster.specs.declared.cluster_line.ClusterLine.TheVariants as says
use Rattle.script_cluster.proofs.network.say_down.Given as goal

abbrev pub invariant-loop-number : goal.invariant-loop-number
invariant-loop-number l = l.said.items ≡ l.initial.said.items ++ map (λ (c : ℕ). says.Closed c 4) (take l.number-index l.numbers)
