use Rattle.std.proofs.Common.{◌++◌, Ok, Err}
use Rattle.std.proofs.lemmas.Result.{err_from_is_err_and}
use Rattle.segment_store.specs.Plans.{snapshot_plan_calls, segment_plan_calls, old_calls}
use Rattle.segment_store.proofs.Segments.{ran_both, ran_front}
use Rattle.segment_store.proofs.KeepRuns.{file_may, segment_ran}
use Rattle.std.proofs.Common.{◌+◌, ◌*◌, length}
use Rattle.disk_model.proofs.Counting.{calls_broke, calls_more}
use Rattle.segment_store.specs.MadeCalls.{file_count}
use Rattle.segment_store.proofs.keep_files.follow.Goals as goal

pub returns-in_err-write_snapshot-clause-ran : goal.returns-in_err-write_snapshot-clause-ran
returns-in_err-write_snapshot-clause-ran g c = λ known.
    let q = c.args.plan.now in
    let p = err_from_is_err_and c.from_residual.result c.from_residual.ensures.1 in
    rw p.1 (ran_front (snapshot_plan_calls q.snapshot) (segment_plan_calls q.segment ++ old_calls q.old) _ _ c.in_err-write_snapshot.field-0.0 _
    (c.in_err-write_snapshot.ensures.ran (file_may q g.D.Disk.tells _ known)))

pub returns-in_err-begin_segment-clause-ran : goal.returns-in_err-begin_segment-clause-ran
returns-in_err-begin_segment-clause-ran g c = λ known.
    let q = c.args.plan.now in
    let p = err_from_is_err_and c.from_residual-in_err-begin_segment.result c.from_residual-in_err-begin_segment.ensures.1 in
    let x = c.in_ok-write_snapshot.field-0 in
    let first = c.in_ok-write_snapshot.ensures.ran (file_may q g.D.Disk.tells _ known) in
    rw p.1 (ran_both (snapshot_plan_calls q.snapshot) (segment_plan_calls q.segment ++ old_calls q.old) _ _ _ x _ first
    (ran_front (segment_plan_calls q.segment) (old_calls q.old) _ _ c.in_err-begin_segment.field-0.0 _
    (segment_ran q g.D.Disk.tells _ _ known x _ c.as_str.result.now c.as_slice.result.now (Err c.in_err-begin_segment.field-0.0) c.as_str.ensures.value c.as_slice.ensures.value first c.in_err-begin_segment.ensures.ran)))

pub returns-clause-ran : goal.returns-clause-ran
returns-clause-ran g c = λ known.
    let q = c.args.plan.now in
    let x = c.in_ok-write_snapshot.field-0 in
    let first = c.in_ok-write_snapshot.ensures.ran (file_may q g.D.Disk.tells _ known) in
    let y = c.in_ok-begin_segment.field-0 in
    let second = segment_ran q g.D.Disk.tells _ _ known x _ c.as_str.result.now c.as_slice.result.now (Ok y) c.as_str.ensures.value c.as_slice.ensures.value first c.in_ok-begin_segment.ensures.ran in
    ran_both (snapshot_plan_calls q.snapshot) (segment_plan_calls q.segment ++ old_calls q.old) _ _ _ x c.remove_old.result first
    (ran_both (segment_plan_calls q.segment) (old_calls q.old) _ _ _ y c.remove_old.result second c.remove_old.ensures.ran)

pub returns-in_err-write_snapshot-clause-count : goal.returns-in_err-write_snapshot-clause-count
returns-in_err-write_snapshot-clause-count g c =
    let p = err_from_is_err_and c.from_residual.result c.from_residual.ensures.1 in
    rw p.1 (calls_broke (file_count c.args.plan.now.snapshot.is_there) (5 + (2 * length c.args.plan.now.old.segments.items + length c.args.plan.now.old.snapshots.items)) _ _ c.in_err-write_snapshot.field-0.0 _ c.in_err-write_snapshot.ensures.count)

pub returns-in_err-begin_segment-clause-count : goal.returns-in_err-begin_segment-clause-count
returns-in_err-begin_segment-clause-count g c =
    let p = err_from_is_err_and c.from_residual-in_err-begin_segment.result c.from_residual-in_err-begin_segment.ensures.1 in
    rw p.1 (calls_more (file_count c.args.plan.now.snapshot.is_there) (5 + (2 * length c.args.plan.now.old.segments.items + length c.args.plan.now.old.snapshots.items)) _ _ _ c.in_ok-write_snapshot.field-0 _ c.in_ok-write_snapshot.ensures.count (calls_broke 5 (2 * length c.args.plan.now.old.segments.items + length c.args.plan.now.old.snapshots.items) _ _ c.in_err-begin_segment.field-0.0 _ c.in_err-begin_segment.ensures.count))

pub returns-clause-count : goal.returns-clause-count
returns-clause-count g c = calls_more (file_count c.args.plan.now.snapshot.is_there) (5 + (2 * length c.args.plan.now.old.segments.items + length c.args.plan.now.old.snapshots.items)) _ _ _ c.in_ok-write_snapshot.field-0 c.remove_old.result c.in_ok-write_snapshot.ensures.count (calls_more 5 (2 * length c.args.plan.now.old.segments.items + length c.args.plan.now.old.snapshots.items) _ _ _ c.in_ok-begin_segment.field-0 c.remove_old.result c.in_ok-begin_segment.ensures.count c.remove_old.ensures.count)
