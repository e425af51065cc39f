use Rattle.std.proofs.Common.{◌≡◌, ◌+◌, ◌++◌, map, drop}
use Rattle.script_cluster.specs.World.{all_shown_from}
use Rattle.script_cluster.proofs.cluster.Cluster.standings.Given as goal

abbrev pub invariant-loop-index : goal.invariant-loop-index
invariant-loop-index g l = l.said.items ++ all_shown_from (l.index + 1) (drop l.index (map g.P.NodePlace.shows l.self.places.items)) ≡ all_shown_from 1 (map g.P.NodePlace.shows l.self.places.items)
