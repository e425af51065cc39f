use Rattle.std.proofs.lemmas.Result.{err_from_is_err_and}
use Rattle.disk_model.proofs.Runs.{ran_stops, ran_then, ran_last}
use Rattle.disk_model.proofs.Counting.{calls_then, calls_stop, calls_one}
use Rattle.segment_store.proofs.keep_files.write_new.Goals as goal

pub returns-in_err-write_parts-clause-ran : goal.returns-in_err-write_parts-clause-ran
returns-in_err-write_parts-clause-ran g c = λ known.
    let p = err_from_is_err_and c.from_residual.result c.from_residual.ensures.1 in
    rw p.1 (ran_stops _ _ _ _ _ _ (c.in_err-write_parts.ensures.told known))

pub returns-in_err-sync-clause-ran : goal.returns-in_err-sync-clause-ran
returns-in_err-sync-clause-ran g c = λ known.
    let p = err_from_is_err_and c.from_residual-in_err-sync.result c.from_residual-in_err-sync.ensures.1 in
    rw p.1 (ran_then _ _ _ _ _ _ _ (c.in_ok-write_parts.ensures.told known) (ran_stops _ _ _ _ _ _ c.in_err-sync.ensures.told))

pub returns-clause-ran : goal.returns-clause-ran
returns-clause-ran g c = λ known.
    ran_then _ _ _ _ _ _ c.sync_names.result (c.in_ok-write_parts.ensures.told known)
    (ran_then _ _ _ _ _ _ c.sync_names.result c.in_ok-sync.ensures.told (ran_last _ _ _ c.sync_names.result c.sync_names.ensures.told))

pub returns-in_err-write_parts-clause-count : goal.returns-in_err-write_parts-clause-count
returns-in_err-write_parts-clause-count g c =
    let p = err_from_is_err_and c.from_residual.result c.from_residual.ensures.1 in
    rw p.1 (calls_stop 2 _ _ _ c.in_err-write_parts.ensures.count)

pub returns-in_err-sync-clause-count : goal.returns-in_err-sync-clause-count
returns-in_err-sync-clause-count g c =
    let p = err_from_is_err_and c.from_residual-in_err-sync.result c.from_residual-in_err-sync.ensures.1 in
    rw p.1 (calls_then 2 _ _ _ _ c.in_ok-write_parts.ensures.count (calls_stop 1 _ _ _ c.in_err-sync.ensures.count))

pub returns-clause-count : goal.returns-clause-count
returns-clause-count g c = calls_then 2 _ _ _ c.sync_names.result c.in_ok-write_parts.ensures.count (calls_then 1 _ _ _ c.sync_names.result c.in_ok-sync.ensures.count (calls_one _ _ c.sync_names.result c.sync_names.ensures.count))
