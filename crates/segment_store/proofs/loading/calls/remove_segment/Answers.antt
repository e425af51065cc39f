use Rattle.std.proofs.Common.{◌≡◌, ◌∙◌}
use Rattle.std.proofs.lemmas.Result.{err_from_is_err_and}
use Rattle.disk_model.specs.Calls.{Remove, SyncNames}
use Rattle.store_laws.specs.Names.{Segment}
use Rattle.segment_store.specs.FileNames.{file_name}
use Rattle.segment_store.proofs.LoadCalls.{named_step, went_stops, went_then, went_last}
use Rattle.disk_model.proofs.Counting.{calls_stop, calls_then, calls_one}
use Rattle.segment_store.proofs.loading.calls.remove_segment.Goals as goal

pub returns-in_err-remove-clause-went : goal.returns-in_err-remove-clause-went
returns-in_err-remove-clause-went g c =
    let p = err_from_is_err_and c.from_residual-in_err-remove.result c.from_residual-in_err-remove.ensures.1 in
    let name : c.as_str-name.result.now ≡ file_name (Segment c.args.number) = c.as_str-name.ensures.value ∙ c.in_ok-text.ensures in
    rw p.1 (went_stops (Remove (file_name (Segment c.args.number))) _ _ _ _ _ (named_step Remove _ _ _ _ _ name c.in_err-remove.ensures.told))

pub returns-in_err-sync_names-clause-went : goal.returns-in_err-sync_names-clause-went
returns-in_err-sync_names-clause-went g c =
    let p = err_from_is_err_and c.from_residual-in_err-sync_names.result c.from_residual-in_err-sync_names.ensures.1 in
    let name : c.as_str-name.result.now ≡ file_name (Segment c.args.number) = c.as_str-name.ensures.value ∙ c.in_ok-text.ensures in
    rw p.1 (went_then (Remove (file_name (Segment c.args.number))) _ _ _ _ _ _ (named_step Remove _ _ _ _ _ name c.in_ok-remove.ensures.told) (went_stops SyncNames _ _ _ _ _ c.in_err-sync_names.ensures.told))

pub returns-clause-went : goal.returns-clause-went
returns-clause-went g c =
    let name : c.as_str-name.result.now ≡ file_name (Segment c.args.number) = c.as_str-name.ensures.value ∙ c.in_ok-text.ensures in
    went_then (Remove (file_name (Segment c.args.number))) _ _ _ _ _ _ (named_step Remove _ _ _ _ _ name c.in_ok-remove.ensures.told) (went_last SyncNames _ _ _ _ c.in_ok-sync_names.ensures.told)

pub returns-in_err-remove-clause-count : goal.returns-in_err-remove-clause-count
returns-in_err-remove-clause-count g c =
    let p = err_from_is_err_and c.from_residual-in_err-remove.result c.from_residual-in_err-remove.ensures.1 in
    rw p.1 (calls_stop 1 _ _ _ c.in_err-remove.ensures.count)

pub returns-in_err-sync_names-clause-count : goal.returns-in_err-sync_names-clause-count
returns-in_err-sync_names-clause-count g c =
    let p = err_from_is_err_and c.from_residual-in_err-sync_names.result c.from_residual-in_err-sync_names.ensures.1 in
    rw p.1 (calls_then 1 _ _ _ _ c.in_ok-remove.ensures.count (calls_stop 0 _ _ _ c.in_err-sync_names.ensures.count))

pub returns-clause-count : goal.returns-clause-count
returns-clause-count g c = calls_then 1 _ _ _ _ c.in_ok-remove.ensures.count (calls_one _ _ _ c.in_ok-sync_names.ensures.count)
