use Rattle.std.proofs.Common.{sym, arith}
use Rattle.std.proofs.lemmas.Result.{err_from_is_err_and}
use Rattle.segment_store.proofs.LoadRuns.{segments_none, segments_more, segments_done, segments_fail}
use Rattle.segment_store.proofs.LoadCountLists.{counted_none, counted_more, counted_err, counted_stop, counted_all}
use Rattle.segment_store.proofs.loading.reads.read_segments.Goals as goal

pub loop-number-init : goal.loop-number-init
loop-number-init g c = (segments_none (g.D.Disk.states c.args.disk.now) c.args.read.now, (omega arith, counted_none (g.D.Disk.states c.args.disk.now) (g.D.Disk.made c.args.disk.now)))

pub loop-number-preserved : goal.loop-number-preserved
loop-number-preserved g c = (
  segments_more _ _ _ c.args.numbers.now c.loop-number.number-index _ _ _ _ _ c.in_ok-bytes.bytes c.loop-number-test.true c.loop-number.invariant.0 c.in_ok-bytes.ensures.told (sym c.as_slice.ensures.value) c.in_ok-add_segment.ensures,
  (
    omega (arith, c.loop-number.invariant.1.0, c.in_ok-bytes.ensures.cause.never_falls),
    counted_more _ _ c.args.numbers.now c.loop-number.number-index _ _ _ _ _ _ c.loop-number-test.true c.loop-number.invariant.0 c.loop-number.invariant.1.1 c.in_ok-bytes.bytes c.in_ok-bytes.ensures.count,
  ),
)

pub returns-in_err-bytes-clause-told : goal.returns-in_err-bytes-clause-told
returns-in_err-bytes-clause-told g c =
    let p = err_from_is_err_and c.from_residual.result c.from_residual.ensures.1 in
    rw p.1 (segments_fail _ _ _ _ _ _ _ _ _ _ _ c.loop-number.invariant.0 c.in_err-bytes.ensures.told)

pub returns-in_err-add_segment-clause-told : goal.returns-in_err-add_segment-clause-told
returns-in_err-add_segment-clause-told g c =
    let p = err_from_is_err_and c.from_residual-in_err-add_segment.result c.from_residual-in_err-add_segment.ensures.1 in
    rw p.1 (segments_fail _ _ _ _ _ _ _ _ _ _ _ c.loop-number.invariant.0 c.in_ok-bytes.ensures.told)

pub returns-clause-told : goal.returns-clause-told
returns-clause-told g c = segments_done _ _ c.args.numbers.now c.loop-number.number-index _ _ _ (omega (arith, c.loop-number-test.false)) c.loop-number.invariant.0

pub returns-in_err-bytes-clause-count : goal.returns-in_err-bytes-clause-count
returns-in_err-bytes-clause-count g c =
    let p = err_from_is_err_and c.from_residual.result c.from_residual.ensures.1 in
    rw p.1 (counted_err _ _ c.args.numbers.now c.loop-number.number-index _ _ _ _ _ _ c.loop-number-test.true c.loop-number.invariant.0 c.loop-number.invariant.1.1 _ _ c.in_err-bytes.ensures.count)

pub returns-in_err-add_segment-clause-count : goal.returns-in_err-add_segment-clause-count
returns-in_err-add_segment-clause-count g c =
    let p = err_from_is_err_and c.from_residual-in_err-add_segment.result c.from_residual-in_err-add_segment.ensures.1 in
    rw p.1 (counted_stop _ _ c.args.numbers.now c.loop-number.number-index _ _ _ _ _ _ c.loop-number-test.true c.loop-number.invariant.0 c.loop-number.invariant.1.1 c.in_ok-bytes.bytes _ c.in_ok-bytes.ensures.count)

pub returns-clause-count : goal.returns-clause-count
returns-clause-count g c = counted_all _ c.args.numbers.now c.loop-number.number-index _ _ _ (omega (arith, c.loop-number-test.false)) c.loop-number.invariant.1.1
