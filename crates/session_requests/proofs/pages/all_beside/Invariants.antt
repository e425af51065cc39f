use Rattle.std.proofs.Common.{◌≡◌, ◌-◌, ◌^◌, ℕ, min, take}
use Rattle.std.specs.Prelude.{sum_by}
use Rattle.session_spec.specs.Machine.{machine_of}
use Rattle.session_table.specs.Table.{table_of}
use Rattle.session_requests.specs.Looking.{pages_beside}
use Rattle.session_requests.proofs.pages.all_beside.Given as goal

abbrev pub invariant-loop-other : goal.invariant-loop-other
invariant-loop-other l = (weight : ℕ) → l.pages ≡ min (sum_by (pages_beside (machine_of l.machine) (table_of l.machine l.sessions weight) l.name) (take l.other-index l.names)) (2 ^ 64 - 1)
