use Rattle.std.proofs.Common.{◌≡◌, ◌∙◌}
use Rattle.std.proofs.lemmas.Result.{err_from_is_err_and}
use Rattle.disk_model.specs.Calls.{CutTo, Sync}
use Rattle.disk_model.specs.Trait.{Text}
use Rattle.store_laws.specs.Names.{Segment}
use Rattle.segment_store.specs.FileNames.{file_name}
use Rattle.segment_store.proofs.LoadCalls.{named_step, went_stops, went_then, went_last}
use Rattle.disk_model.proofs.Counting.{calls_stop, calls_then, calls_one}
use Rattle.segment_store.proofs.loading.calls.cut_segment.Goals as goal

pub returns-in_err-cut-clause-went : goal.returns-in_err-cut-clause-went
returns-in_err-cut-clause-went g c =
    let p = err_from_is_err_and c.from_residual-in_err-cut.result c.from_residual-in_err-cut.ensures.1 in
    let name : c.as_str-name.result.now ≡ file_name (Segment c.args.number) = c.as_str-name.ensures.value ∙ c.in_ok-text.ensures in
    rw p.1 (went_stops (CutTo (file_name (Segment c.args.number)) c.args.good) _ _ _ _ _ (named_step (λ (n : Text). CutTo n c.args.good) _ _ _ _ _ name c.in_err-cut.ensures.told))

pub returns-in_err-sync-clause-went : goal.returns-in_err-sync-clause-went
returns-in_err-sync-clause-went g c =
    let p = err_from_is_err_and c.from_residual-in_err-sync.result c.from_residual-in_err-sync.ensures.1 in
    let name : c.as_str-name.result.now ≡ file_name (Segment c.args.number) = c.as_str-name.ensures.value ∙ c.in_ok-text.ensures in
    rw p.1 (went_then (CutTo (file_name (Segment c.args.number)) c.args.good) _ _ _ _ _ _ (named_step (λ (n : Text). CutTo n c.args.good) _ _ _ _ _ name c.in_ok-cut.ensures.told)
    (went_stops (Sync (file_name (Segment c.args.number))) _ _ _ _ _ (named_step Sync _ _ _ _ _ name c.in_err-sync.ensures.told)))

pub returns-clause-went : goal.returns-clause-went
returns-clause-went g c =
    let name : c.as_str-name.result.now ≡ file_name (Segment c.args.number) = c.as_str-name.ensures.value ∙ c.in_ok-text.ensures in
    went_then (CutTo (file_name (Segment c.args.number)) c.args.good) _ _ _ _ _ _ (named_step (λ (n : Text). CutTo n c.args.good) _ _ _ _ _ name c.in_ok-cut.ensures.told)
    (went_last (Sync (file_name (Segment c.args.number))) _ _ _ _ (named_step Sync _ _ _ _ _ name c.in_ok-sync.ensures.told))

pub returns-in_err-cut-clause-count : goal.returns-in_err-cut-clause-count
returns-in_err-cut-clause-count g c =
    let p = err_from_is_err_and c.from_residual-in_err-cut.result c.from_residual-in_err-cut.ensures.1 in
    rw p.1 (calls_stop 1 _ _ _ c.in_err-cut.ensures.count)

pub returns-in_err-sync-clause-count : goal.returns-in_err-sync-clause-count
returns-in_err-sync-clause-count g c =
    let p = err_from_is_err_and c.from_residual-in_err-sync.result c.from_residual-in_err-sync.ensures.1 in
    rw p.1 (calls_then 1 _ _ _ _ c.in_ok-cut.ensures.count (calls_stop 0 _ _ _ c.in_err-sync.ensures.count))

pub returns-clause-count : goal.returns-clause-count
returns-clause-count g c = calls_then 1 _ _ _ _ c.in_ok-cut.ensures.count (calls_one _ _ _ c.in_ok-sync.ensures.count)
