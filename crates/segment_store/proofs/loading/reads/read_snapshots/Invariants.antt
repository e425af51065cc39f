use Rattle.std.proofs.Common.{◌≤◌, length, drop}
use Rattle.segment_store.proofs.LoadRuns.{SnapsRun}
use Rattle.segment_store.proofs.LoadCountLists.{SnapsCounted}
use Rattle.segment_store.proofs.loading.reads.read_snapshots.Given as goal

abbrev pub invariant-loop-left : goal.invariant-loop-left
invariant-loop-left g l = (l.left ≤ length l.indexes) × (SnapsRun (g.D.Disk.states l.initial.disk) (g.D.Disk.states l.disk) (drop l.left l.indexes) l.initial.read l.read × ((g.D.Disk.faults l.initial.disk ≤ g.D.Disk.faults l.disk) × SnapsCounted (g.D.Disk.states l.initial.disk) l.initial.read.snap.index (drop l.left l.indexes) l.read.snap.index (g.D.Disk.made l.initial.disk) (g.D.Disk.made l.disk)))

abbrev pub decreases-loop-left : goal.decreases-loop-left
decreases-loop-left g l = l.left
