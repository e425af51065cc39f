use Rattle.std.proofs.Common.{◌≤◌, take, Ok}
use Rattle.disk_model.specs.Trait.{Ran, MakesCalls}
use Rattle.disk_model.specs.declared.faults.DiskFault.{DiskFault}
use Rattle.segment_store.specs.Keeping.{loose_removal_calls}
use Rattle.segment_store.proofs.keep_files.remove_loose.Given as goal

abbrev pub invariant-loop-name : goal.invariant-loop-name
invariant-loop-name g l =
    Ran {T = Unit {0}} (loose_removal_calls (take l.name-index l.names)) (g.D.Disk.states l.fn.disk) (g.D.Disk.states l.disk) (Ok tt)
    × ((g.D.Disk.faults l.fn.disk ≤ g.D.Disk.faults l.disk) × ((g.D.Disk.wants l.fn.disk ≤ g.D.Disk.wants l.disk) × MakesCalls {T = Unit {0}} {E = DiskFault} l.name-index (g.D.Disk.made l.fn.disk) (g.D.Disk.made l.disk) (Ok tt)))
