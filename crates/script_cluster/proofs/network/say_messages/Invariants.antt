use Rattle.std.proofs.Common.{◌≡◌, ◌++◌, suc, drop}
use Rattle.script_cluster.specs.World.{messages_said}
use Rattle.script_cluster.proofs.network.say_messages.Given as goal

abbrev pub invariant-loop-message : goal.invariant-loop-message
invariant-loop-message l = l.said.items ++ messages_said (suc l.number) (drop l.message-index l.messages) ≡ l.initial.said.items ++ messages_said (suc l.before) l.messages
