use Rattle.std.proofs.Common.{◌≡◌, ◌++◌}
use Rattle.script_cluster.specs.World.{replies_said}
use Rattle.script_cluster.proofs.network.say_replies.Given as goal

abbrev pub invariant-loop-connection : goal.invariant-loop-connection
invariant-loop-connection l = l.said.items ≡ l.initial.said.items ++ replies_said l.yielded
