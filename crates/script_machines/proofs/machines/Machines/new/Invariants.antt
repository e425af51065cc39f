use Rattle.std.proofs.Common.{◌≡◌}
use Rattle.script_machines.specs.Machines.{idle_machines}
use Rattle.script_machines.proofs.machines.Machines.new.Given as goal

abbrev pub invariant-loop-made : goal.invariant-loop-made
invariant-loop-made l = l.machines.items ≡ idle_machines l._made
