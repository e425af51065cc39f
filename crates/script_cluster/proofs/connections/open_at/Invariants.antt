use Rattle.std.proofs.Common.{◌≡◌, map}
use Rattle.std.specs.Map.Iter.{deref_pair}
use Rattle.script_cluster.specs.World.{open_at}
use Rattle.script_cluster.specs.Seen.{link_of}
use Rattle.script_cluster.proofs.connections.open_at.Given as goal

abbrev pub invariant-loop-number : goal.invariant-loop-number
invariant-loop-number l = l.numbers.items ≡ open_at (map link_of (map deref_pair l.yielded)) l.node
