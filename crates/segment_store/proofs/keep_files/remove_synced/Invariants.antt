use Rattle.std.proofs.Common.{◌≤◌, ◌*◌, take, Ok}
use Rattle.disk_model.specs.Trait.{Ran, MakesCalls}
use Rattle.disk_model.specs.declared.faults.DiskFault.{DiskFault}
use Rattle.segment_store.specs.Keeping.{removal_calls}
use Rattle.segment_store.proofs.keep_files.remove_synced.Given as goal

abbrev pub invariant-loop-name : goal.invariant-loop-name
invariant-loop-name g l =
    Ran {T = Unit {0}} (removal_calls (take l.name-index l.names)) (g.D.Disk.states l.fn.disk) (g.D.Disk.states l.disk) (Ok tt)
    × ((g.D.Disk.faults l.fn.disk ≤ g.D.Disk.faults l.disk) × ((g.D.Disk.wants l.fn.disk ≤ g.D.Disk.wants l.disk) × MakesCalls {T = Unit {0}} {E = DiskFault} (2 * l.name-index) (g.D.Disk.made l.fn.disk) (g.D.Disk.made l.disk) (Ok tt)))
