use Rattle.std.proofs.Common.{◌≡◌, ◌++◌, take, drop}
use Rattle.script_cluster.specs.World.{closed_said, without_all}
use Rattle.script_cluster.proofs.network.say_closed.Given as goal

abbrev pub invariant-loop-one : goal.invariant-loop-one
invariant-loop-one l = (l.said.items ≡ l.initial.said.items ++ closed_said (take l.one-index l.closed)) × (without_all l.connections (drop l.one-index l.closed) ≡ without_all l.initial.connections l.closed)
