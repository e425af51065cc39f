use Rattle.std.proofs.Common.{◌≤◌, take}
use Rattle.segment_store.proofs.LoadRuns.{SegmentsRun}
use Rattle.segment_store.proofs.LoadCountLists.{SegmentsCounted}
use Rattle.segment_store.proofs.loading.reads.read_segments.Given as goal

abbrev pub invariant-loop-number : goal.invariant-loop-number
invariant-loop-number g l = SegmentsRun (g.D.Disk.states l.initial.disk) (g.D.Disk.states l.disk) (take l.number-index l.numbers) l.initial.read l.read × ((g.D.Disk.faults l.initial.disk ≤ g.D.Disk.faults l.disk) × SegmentsCounted (g.D.Disk.states l.initial.disk) (take l.number-index l.numbers) (g.D.Disk.made l.initial.disk) (g.D.Disk.made l.disk))
