use Rattle.std.proofs.Common.{◌≡◌, ◌++◌, ◌+◌, drop}
use Rattle.script_machines.specs.Machines.{standings}
use Rattle.script_machines.proofs.machines.Machines.standings.Given as goal

abbrev pub invariant-loop-place : goal.invariant-loop-place
invariant-loop-place l = l.said.items ++ standings (l.place + 1) (drop l.place l.self.machines.items) ≡ standings 1 l.self.machines.items
