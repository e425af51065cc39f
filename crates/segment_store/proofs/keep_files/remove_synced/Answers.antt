use Rattle.std.proofs.Common.{◌∙◌}
use Rattle.std.proofs.lemmas.Result.{err_from_is_err_and}
use Rattle.segment_store.proofs.KeepRuns.{went_synced, synced_stays, names_stay, no_fewer}
use Rattle.std.proofs.Common.{◌+◌, ◌*◌, length, arith}
use Rattle.disk_model.specs.declared.faults.DiskFault.{DiskFault}
use Rattle.segment_store.proofs.CountedCalls.{err_after, ok_after, two_more}
use Rattle.segment_store.proofs.keep_files.remove_synced.Goals as goal

pub returns-in_err-remove-clause-ran : goal.returns-in_err-remove-clause-ran
returns-in_err-remove-clause-ran g c =
    let p = err_from_is_err_and c.from_residual.result c.from_residual.ensures.1 in
    rw p.1 (synced_stays c.args.names.now c.loop-name.name-index _ c.as_str.result.now (c.as_str.ensures.value ∙ c.name-item.is) c.loop-name-test.true _ _ tt c.loop-name.invariant.0 _ _ _ c.in_err-remove.ensures.told)

pub returns-in_err-sync_names-clause-ran : goal.returns-in_err-sync_names-clause-ran
returns-in_err-sync_names-clause-ran g c =
    let p = err_from_is_err_and c.from_residual-in_err-sync_names.result c.from_residual-in_err-sync_names.ensures.1 in
    rw p.1 (names_stay c.args.names.now c.loop-name.name-index _ c.as_str.result.now (c.as_str.ensures.value ∙ c.name-item.is) c.loop-name-test.true _ _ tt c.loop-name.invariant.0 _ _ c.in_ok-remove.field-0 _ _ c.in_ok-remove.ensures.told c.in_err-sync_names.ensures.told)

pub loop-name-preserved : goal.loop-name-preserved
loop-name-preserved g c = (
  went_synced c.args.names.now c.loop-name.name-index _ c.as_str.result.now (c.as_str.ensures.value ∙ c.name-item.is) c.loop-name-test.true _ _ tt c.loop-name.invariant.0 _ _ c.in_ok-remove.field-0 c.in_ok-sync_names.field-0 c.in_ok-remove.ensures.told c.in_ok-sync_names.ensures.told,
  (
    no_fewer _ _ _ c.loop-name.invariant.1.0 (no_fewer _ _ _ c.in_ok-remove.ensures.cause.never_falls c.in_ok-sync_names.ensures.cause.never_falls),
    (
      no_fewer _ _ _ c.loop-name.invariant.1.1.0 (no_fewer _ _ _ c.in_ok-remove.ensures.want.never_falls c.in_ok-sync_names.ensures.want.never_falls),
      two_more c.loop-name.name-index _ _ _ tt c.in_ok-remove.field-0 tt c.loop-name.invariant.1.1.1 _ c.in_ok-remove.ensures.count c.in_ok-sync_names.ensures.count,
    ),
  ),
)

pub returns-in_err-remove-clause-count : goal.returns-in_err-remove-clause-count
returns-in_err-remove-clause-count g c =
    let p = err_from_is_err_and c.from_residual.result c.from_residual.ensures.1 in
    rw p.1 (err_after (2 * c.loop-name.name-index) (2 * length c.args.names.now) _ _ _ tt _ (omega (arith, c.loop-name-test.true)) c.loop-name.invariant.1.1.1 c.in_err-remove.ensures.count)

pub returns-in_err-sync_names-clause-count : goal.returns-in_err-sync_names-clause-count
returns-in_err-sync_names-clause-count g c =
    let p = err_from_is_err_and c.from_residual-in_err-sync_names.result c.from_residual-in_err-sync_names.ensures.1 in
    rw p.1 (err_after {E = DiskFault} (2 * c.loop-name.name-index + 1) (2 * length c.args.names.now) _ _ _ c.in_ok-remove.field-0 _ (omega (arith, c.loop-name-test.true)) (ok_after (2 * c.loop-name.name-index) _ _ _ tt c.in_ok-remove.field-0 c.loop-name.invariant.1.1.1 c.in_ok-remove.ensures.count) c.in_err-sync_names.ensures.count)
