use Rattle.std.proofs.Common.{◌∙◌}
use Rattle.std.proofs.lemmas.Result.{err_from_is_err_and}
use Rattle.segment_store.proofs.KeepRuns.{went_loose, loose_stays, no_fewer}
use Rattle.std.proofs.Common.{length, arith}
use Rattle.segment_store.proofs.CountedCalls.{err_after, ok_after}
use Rattle.segment_store.proofs.keep_files.remove_loose.Goals as goal

pub returns-in_err-remove-clause-ran : goal.returns-in_err-remove-clause-ran
returns-in_err-remove-clause-ran g c =
    let p = err_from_is_err_and c.from_residual.result c.from_residual.ensures.1 in
    rw p.1 (loose_stays c.args.names.now c.loop-name.name-index _ c.as_str.result.now (c.as_str.ensures.value ∙ c.name-item.is) c.loop-name-test.true _ _ tt c.loop-name.invariant.0 _ _ _ c.in_err-remove.ensures.told)

pub loop-name-preserved : goal.loop-name-preserved
loop-name-preserved g c = (
  went_loose c.args.names.now c.loop-name.name-index _ c.as_str.result.now (c.as_str.ensures.value ∙ c.name-item.is) c.loop-name-test.true _ _ tt c.loop-name.invariant.0 _ c.in_ok-remove.field-0 c.in_ok-remove.ensures.told,
  (
    no_fewer _ _ _ c.loop-name.invariant.1.0 c.in_ok-remove.ensures.cause.never_falls,
    (no_fewer _ _ _ c.loop-name.invariant.1.1.0 c.in_ok-remove.ensures.want.never_falls, ok_after c.loop-name.name-index _ _ _ tt tt c.loop-name.invariant.1.1.1 c.in_ok-remove.ensures.count),
  ),
)

pub returns-in_err-remove-clause-count : goal.returns-in_err-remove-clause-count
returns-in_err-remove-clause-count g c =
    let p = err_from_is_err_and c.from_residual.result c.from_residual.ensures.1 in
    rw p.1 (err_after c.loop-name.name-index (length c.args.names.now) _ _ _ tt _ (omega (arith, c.loop-name-test.true)) c.loop-name.invariant.1.1.1 c.in_err-remove.ensures.count)
