use Rattle.std.proofs.Common.{◌-◌, arith}
use Rattle.std.proofs.Math.ListN.{drop_of_length-le}
use Rattle.std.proofs.lemmas.Result.{err_from_is_err_and}
use Rattle.segment_store.proofs.LoadRuns.{snaps_none, snaps_more, snaps_done, snaps_fail}
use Rattle.segment_store.proofs.LoadCountLists.{snaps_counted_none, snaps_counted_more, snaps_counted_err, snaps_counted_all}
use Rattle.segment_store.proofs.loading.reads.read_snapshots.Goals as goal

pub loop-left-init : goal.loop-left-init
loop-left-init g c = (omega arith, (snaps_none (g.D.Disk.states c.args.disk.now) _ c.args.read.now (drop_of_length-le c.args.indexes.now (omega arith)), (omega arith, snaps_counted_none (g.D.Disk.states c.args.disk.now) c.args.read.now.snap.index _ (g.D.Disk.made c.args.disk.now) (drop_of_length-le c.args.indexes.now (omega arith)))))

pub loop-left-preserved : goal.loop-left-preserved
loop-left-preserved g c = (
  omega (arith, c.loop-left.invariant.0),
  (
    snaps_more _ _ _ c.args.indexes.now (c.loop-left.left - 1) c.loop-left.left _ _ _ _ _ (omega (arith, c.loop-left.invariant.0, c.loop-left-test.true)) (omega (arith, c.loop-left-test.true)) c.requires c.loop-left.invariant.1.0 c.in_ok-read_snapshot.ensures.told,
    (
      omega (arith, c.loop-left.invariant.1.1.0, c.in_ok-read_snapshot.ensures.cause.never_falls),
      snaps_counted_more _ _ c.args.indexes.now (c.loop-left.left - 1) c.loop-left.left _ c.args.read.now _ _ _ _ (omega (arith, c.loop-left.invariant.0, c.loop-left-test.true)) (omega (arith, c.loop-left-test.true)) c.loop-left.invariant.1.0 c.loop-left.invariant.1.1.1 _ _ _ c.in_ok-read_snapshot.ensures.told c.in_ok-read_snapshot.ensures.count,
    ),
  ),
)

pub returns-in_err-read_snapshot-clause-told : goal.returns-in_err-read_snapshot-clause-told
returns-in_err-read_snapshot-clause-told g c =
    let p = err_from_is_err_and c.from_residual.result c.from_residual.ensures.1 in
    rw p.1 (snaps_fail _ _ _ c.args.indexes.now _ _ _ c.args.read.now _ _ _ _ c.loop-left.invariant.1.0 c.in_err-read_snapshot.ensures.told)

pub returns-clause-told : goal.returns-clause-told
returns-clause-told g c = snaps_done _ _ c.args.indexes.now c.loop-left.left _ _ _ (omega (arith, c.loop-left-test.false)) c.loop-left.invariant.1.0

pub returns-in_err-read_snapshot-clause-count : goal.returns-in_err-read_snapshot-clause-count
returns-in_err-read_snapshot-clause-count g c =
    let p = err_from_is_err_and c.from_residual.result c.from_residual.ensures.1 in
    rw p.1 (snaps_counted_err _ _ c.args.indexes.now (c.loop-left.left - 1) c.loop-left.left _ c.args.read.now _ _ _ _ (omega (arith, c.loop-left.invariant.0, c.loop-left-test.true)) (omega (arith, c.loop-left-test.true)) c.loop-left.invariant.1.0 c.loop-left.invariant.1.1.1 _ _ c.in_err-read_snapshot.ensures.count)

pub returns-clause-count : goal.returns-clause-count
returns-clause-count g c = snaps_counted_all _ c.args.read.now.snap.index c.args.indexes.now c.loop-left.left _ _ _ _ (omega (arith, c.loop-left-test.false)) c.loop-left.invariant.1.1.1
