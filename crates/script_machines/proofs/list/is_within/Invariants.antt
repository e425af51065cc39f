use Rattle.std.proofs.Common.{◌≡◌, ◌-◌, ◌^◌, min, sum_by, take}
use Rattle.script_machines.specs.declared.stated.Stated.{Stated}
use Rattle.script_machines.proofs.list.is_within.Given as goal

abbrev pub invariant-loop-stated : goal.invariant-loop-stated
invariant-loop-stated l = l.total ≡ min (sum_by (λ (s : Stated). s.length) (take l.stated-index l.table)) (2 ^ 64 - 1)
