use Rattle.std.proofs.Common.{◌≡◌, ◌-◌, ◌+◌, length}
use Rattle.script_cluster.specs.Clusters.{held}
use Rattle.script_cluster.proofs.Happening.{Started}
use Rattle.script_cluster.proofs.cluster.Cluster.start_all.Given as goal

abbrev pub invariant-loop-index : goal.invariant-loop-index
invariant-loop-index g l = (length l.self.places.items ≡ length l.initial.self.places.items)
    × Started g.P.NodePlace.knows (length l.initial.self.places.items) (length l.initial.self.places.items - l.index) (l.index + 1) (held g.P.NodePlace.shows l.initial.self) l.initial.said.items (held g.P.NodePlace.shows l.self) l.said.items
