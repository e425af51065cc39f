use Rattle.std.proofs.Common.{◌≤◌}
use Rattle.segment_store.proofs.LoadSees.{Reading}
use Rattle.folder_tail.proofs.folder.read_whole.Given as goal

abbrev pub invariant-reads : goal.invariant-reads
invariant-reads g l = Reading l.name (g.D.Disk.states l.initial.disk) (g.D.Disk.states l.disk) l.bytes.items × (g.D.Disk.faults l.initial.disk ≤ g.D.Disk.faults l.disk)
