use Rattle.std.proofs.Common.{◌≤◌, arith, length}
use Rattle.std.proofs.lemmas.Result.{err_from_is_err_and}
use Rattle.segment_store.proofs.LoadRuns.{synced_none, synced_more, sync_fails, names_fail, names_done}
use Rattle.std.proofs.Common.{suc, ◌+◌, refl}
use Rattle.disk_model.proofs.Counting.{calls_none}
use Rattle.segment_store.specs.declared.fault.StoreFault.{StoreFault}
use Rattle.segment_store.proofs.CountedCalls.{err_after, ok_after}
use Rattle.segment_store.proofs.LoadCounting.{then_err, then_ok, exactly}
use Rattle.segment_store.proofs.loading.calls.sync_files.Goals as goal

pub loop-file-init : goal.loop-file-init
loop-file-init g c = (synced_none (g.D.Disk.states c.args.disk.now), (omega arith, (calls_none (g.D.Disk.made c.args.disk.now) tt, omega arith)))

pub loop-file-preserved : goal.loop-file-preserved
loop-file-preserved g c = (
  synced_more c.args.files.now c.loop-file.file-index _ c.in_ok-sync_file.field-0 _ _ _ c.loop-file-test.true c.loop-file.invariant.0 c.in_ok-sync_file.ensures.went,
  (
    omega (arith, c.loop-file.invariant.1.0, c.in_ok-sync_file.ensures.cause.never_falls),
    (then_ok c.loop-file.file-index 1 (c.loop-file.file-index + 1) _ _ _ tt c.in_ok-sync_file.field-0 tt refl c.loop-file.invariant.1.1.0 c.in_ok-sync_file.ensures.count, omega (arith, c.loop-file-test.true)),
  ),
)

pub returns-in_err-sync_file-clause-went : goal.returns-in_err-sync_file-clause-went
returns-in_err-sync_file-clause-went g c =
    let p = err_from_is_err_and c.from_residual.result c.from_residual.ensures.1 in
    rw p.1 (sync_fails c.args.files.now c.loop-file.file-index _ c.in_err-sync_file.field-0.0 _ _ _ _ c.loop-file-test.true c.loop-file.invariant.0 c.in_err-sync_file.ensures.went)

pub returns-in_err-sync_names-clause-went : goal.returns-in_err-sync_names-clause-went
returns-in_err-sync_names-clause-went g c =
    let p = err_from_is_err_and c.from_residual-in_err-sync_names.result c.from_residual-in_err-sync_names.ensures.1 in
    let end : length c.args.files.now ≤ c.loop-file.file-index = omega (arith, c.loop-file-test.false) in
    rw p.1 (names_fail c.args.files.now c.loop-file.file-index _ _ _ _ _ end c.loop-file.invariant.0 c.in_err-sync_names.ensures.told)

pub returns-clause-went : goal.returns-clause-went
returns-clause-went g c =
    let end : length c.args.files.now ≤ c.loop-file.file-index = omega (arith, c.loop-file-test.false) in
    names_done c.args.files.now c.loop-file.file-index c.in_ok-sync_names.field-0 _ _ _ end c.loop-file.invariant.0 c.in_ok-sync_names.ensures.told

pub returns-in_err-sync_file-clause-count : goal.returns-in_err-sync_file-clause-count
returns-in_err-sync_file-clause-count g c =
    let p = err_from_is_err_and c.from_residual.result c.from_residual.ensures.1 in
    rw p.1 (then_err c.loop-file.file-index 1 (suc (length c.args.files.now)) _ _ _ tt c.in_err-sync_file.field-0.0 _ (omega (arith, c.loop-file-test.true)) c.loop-file.invariant.1.1.0 c.in_err-sync_file.ensures.count)

pub returns-in_err-sync_names-clause-count : goal.returns-in_err-sync_names-clause-count
returns-in_err-sync_names-clause-count g c =
    let p = err_from_is_err_and c.from_residual-in_err-sync_names.result c.from_residual-in_err-sync_names.ensures.1 in
    rw p.1 (err_after c.loop-file.file-index (suc (length c.args.files.now)) _ _ _ tt _ (omega (arith, c.loop-file.invariant.1.1.1)) c.loop-file.invariant.1.1.0 c.in_err-sync_names.ensures.count)

pub returns-clause-count : goal.returns-clause-count
returns-clause-count g c =
    exactly {S = Unit {0}} {T = Unit {0}} {E = StoreFault} {F = StoreFault} (c.loop-file.file-index + 1) (suc (length c.args.files.now)) _ _ tt _ (omega (arith, c.loop-file-test.false, c.loop-file.invariant.1.1.1))
    (ok_after {S = Unit {0}} {T = Unit {0}} {E = StoreFault} {F = StoreFault} c.loop-file.file-index _ _ _ tt tt c.loop-file.invariant.1.1.0 c.in_ok-sync_names.ensures.count)
