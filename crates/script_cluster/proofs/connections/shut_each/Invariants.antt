use Rattle.std.proofs.Common.{◌≡◌, map, drop}
use Rattle.script_cluster.specs.World.{without_each}
use Rattle.script_cluster.specs.Seen.{link_of}
use Rattle.script_cluster.proofs.connections.shut_each.Given as goal

abbrev pub invariant-loop-number : goal.invariant-loop-number
invariant-loop-number l = without_each (map link_of l.links.entries) (drop l.number-index l.numbers) ≡ without_each (map link_of l.initial.links.entries) l.numbers
