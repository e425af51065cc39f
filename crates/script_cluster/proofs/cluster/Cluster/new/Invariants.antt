use Rattle.std.proofs.Common.{◌≡◌, map}
use Rattle.script_cluster.specs.World.{empty_places}
use Rattle.script_cluster.proofs.Learning.{AreNew}
use Rattle.script_cluster.proofs.cluster.Cluster.new.Given as goal

abbrev pub invariant-loop-made : goal.invariant-loop-made
invariant-loop-made g l = (map g.P.NodePlace.shows l.places.items ≡ empty_places l._made) × AreNew g.P.NodePlace.knows l.places.items
