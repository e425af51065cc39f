use Rattle.std.proofs.Common.{◌≤◌}
use Rattle.segment_store.proofs.LoadSees.{Reading}
use Rattle.segment_store.proofs.LoadCounting.{Piecewise}
use Rattle.segment_store.proofs.loading.reads.read_whole.Given as goal

abbrev pub invariant-reads : goal.invariant-reads
invariant-reads g l = Reading l.name (g.D.Disk.states l.initial.disk) (g.D.Disk.states l.disk) l.bytes.items × ((g.D.Disk.faults l.initial.disk ≤ g.D.Disk.faults l.disk) × Piecewise l.name (g.D.Disk.states l.initial.disk) l.bytes.items (g.D.Disk.made l.initial.disk) (g.D.Disk.made l.disk))
