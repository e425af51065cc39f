use Rattle.std.proofs.Common.{◌≤◌, take, length, Ok}
use Rattle.disk_model.specs.Trait.{MakesCalls}
use Rattle.segment_store.specs.declared.fault.StoreFault.{StoreFault}
use Rattle.segment_store.proofs.LoadRuns.{Synced}
use Rattle.segment_store.proofs.loading.calls.sync_files.Given as goal

abbrev pub invariant-loop-file : goal.invariant-loop-file
invariant-loop-file g l = Synced (take l.file-index l.files) (g.D.Disk.states l.initial.disk) (g.D.Disk.states l.disk) × ((g.D.Disk.faults l.initial.disk ≤ g.D.Disk.faults l.disk) × (MakesCalls {T = Unit {0}} {E = StoreFault} l.file-index (g.D.Disk.made l.initial.disk) (g.D.Disk.made l.disk) (Ok tt) × (l.file-index ≤ length l.files)))
