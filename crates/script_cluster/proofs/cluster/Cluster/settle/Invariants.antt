use Rattle.std.proofs.Common.{◌-◌}
use Rattle.script_cluster.specs.Clusters.{held}
use Rattle.script_cluster.proofs.Happening.{Settled}
use Rattle.script_cluster.proofs.cluster.Cluster.settle.Given as goal

abbrev pub invariant-loop-arrived : goal.invariant-loop-arrived
invariant-loop-arrived g l = Settled g.P.NodePlace.knows l.count (l.count - l._arrived) (held g.P.NodePlace.shows l.initial.self) l.initial.said.items (held g.P.NodePlace.shows l.self) l.said.items
