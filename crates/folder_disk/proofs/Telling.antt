-- The clauses of a disk that says nothing.
use Rattle.std.proofs.Common.{Result}
use Rattle.disk_model.specs.Disk.{Disk}
use Rattle.disk_model.specs.Calls.{Call}
use Rattle.disk_model.specs.Trait.{Text, Steps, Looks}
use Rattle.folder_disk.specs.Untold.{no_states}
use Rattle.disk_model.specs.declared.faults.DiskFault.{DiskFault}

pub steps_untold : {T : Type 0} (call : Call Text) (result : Result T DiskFault) → Steps call no_states no_states result
steps_untold call result = record { each = λ d y. absurd y }

pub looks_untold : {T : Type 0} (result : Result T DiskFault) (Shows : Disk Text → T → Type 0) → Looks no_states no_states result Shows
looks_untold result Shows = record { each = λ d y. absurd y }
