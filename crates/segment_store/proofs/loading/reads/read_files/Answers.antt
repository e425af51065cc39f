use Rattle.segment_store.proofs.LoadReads.{reads_all}
use Rattle.std.proofs.Common.{◌≡◌, refl, ap, ◌∙◌}
use Rattle.std.proofs.lemmas.Result.{err_from_is_err_and}
use Rattle.store_laws.specs.Store.{Snap}
use Rattle.store_format.specs.FilesRead.{FilesRead}
use Rattle.segment_store.proofs.LoadCountLists.{first_failed, second_failed, third_failed, fourth_failed, all_done}
use Rattle.segment_store.proofs.loading.reads.read_files.Goals as goal

pub returns-clause-told : goal.returns-clause-told
returns-clause-told g c =
    reads_all c.args.list.now _ _ _ _ _ c.args.read.now c.read_metadata.new.read c.read_metadata-2.new.read c.read_snapshots.new.read c.read_segments.new.read c.in_ok-first.first c.in_ok-second.second c.has_metadata.result c.has_metadata-2.result c.snapshots.result.now c.segments.result.now _ _
    c.requires c.has_metadata.ensures c.has_metadata-2.ensures c.snapshots.ensures.numbers c.segments.ensures.numbers
    c.in_ok-first.ensures.told c.in_ok-second.ensures.told c.in_ok-read_snapshots.ensures.told c.in_ok-read_segments.ensures.told

pub returns-in_err-first-clause-count : goal.returns-in_err-first-clause-count
returns-in_err-first-clause-count g c =
    let p = err_from_is_err_and c.from_residual.result c.from_residual.ensures.1 in
    rw p.1 (first_failed c.args.list.now c.has_metadata.result c.args.list.now.second c.args.list.now.snapshots c.args.list.now.segments 0 c.has_metadata.ensures refl refl refl refl _ _ _ _ _ c.in_err-first.ensures.count)

pub returns-in_err-second-clause-count : goal.returns-in_err-second-clause-count
returns-in_err-second-clause-count g c =
    let p = err_from_is_err_and c.from_residual-in_err-second.result c.from_residual-in_err-second.ensures.1 in
    rw p.1 (second_failed c.args.list.now c.has_metadata.result c.has_metadata-2.result c.args.list.now.snapshots c.args.list.now.segments 0 c.has_metadata.ensures c.has_metadata-2.ensures refl refl refl _ _ _ _ _ c.in_ok-first.first _ c.in_ok-first.ensures.told c.in_ok-first.ensures.count _ _ c.in_err-second.ensures.count)

pub returns-in_err-read_snapshots-clause-count : goal.returns-in_err-read_snapshots-clause-count
returns-in_err-read_snapshots-clause-count g c =
    let p = err_from_is_err_and c.from_residual-in_err-read_snapshots.result c.from_residual-in_err-read_snapshots.ensures.1 in
    let from : c.read_metadata-2.new.read.snap.index ≡ 0 = ap (λ (s : Snap). s.index) (c.in_ok-second.ensures.snapshot ∙ c.in_ok-first.ensures.snapshot) ∙ ap (λ (r : FilesRead). r.snap.index) c.requires in
    rw p.1 (third_failed c.args.list.now c.has_metadata.result c.has_metadata-2.result c.snapshots.result.now c.args.list.now.segments c.read_metadata-2.new.read.snap.index c.has_metadata.ensures c.has_metadata-2.ensures c.snapshots.ensures.numbers refl from _ _ _ _ _ c.in_ok-first.first _ c.in_ok-first.ensures.told c.in_ok-first.ensures.count
    _ _ c.in_ok-second.second _ c.in_ok-second.ensures.told c.in_ok-second.ensures.count _ _ c.in_err-read_snapshots.ensures.count)

pub returns-in_err-read_segments-clause-count : goal.returns-in_err-read_segments-clause-count
returns-in_err-read_segments-clause-count g c =
    let p = err_from_is_err_and c.from_residual-in_err-read_segments.result c.from_residual-in_err-read_segments.ensures.1 in
    let from : c.read_metadata-2.new.read.snap.index ≡ 0 = ap (λ (s : Snap). s.index) (c.in_ok-second.ensures.snapshot ∙ c.in_ok-first.ensures.snapshot) ∙ ap (λ (r : FilesRead). r.snap.index) c.requires in
    rw p.1 (fourth_failed c.args.list.now c.has_metadata.result c.has_metadata-2.result c.snapshots.result.now c.segments.result.now c.read_metadata-2.new.read.snap.index c.has_metadata.ensures c.has_metadata-2.ensures c.snapshots.ensures.numbers c.segments.ensures.numbers from _ _ _ _ _ c.in_ok-first.first _ c.in_ok-first.ensures.told c.in_ok-first.ensures.count
    _ _ c.in_ok-second.second _ c.in_ok-second.ensures.told c.in_ok-second.ensures.count _ _ c.in_ok-read_snapshots.field-0 _ c.in_ok-read_snapshots.ensures.told c.in_ok-read_snapshots.ensures.count _ _ c.in_err-read_segments.ensures.count)

pub returns-clause-count : goal.returns-clause-count
returns-clause-count g c =
    let from : c.read_metadata-2.new.read.snap.index ≡ 0 = ap (λ (s : Snap). s.index) (c.in_ok-second.ensures.snapshot ∙ c.in_ok-first.ensures.snapshot) ∙ ap (λ (r : FilesRead). r.snap.index) c.requires in
    all_done c.args.list.now c.has_metadata.result c.has_metadata-2.result c.snapshots.result.now c.segments.result.now c.read_metadata-2.new.read.snap.index c.has_metadata.ensures c.has_metadata-2.ensures c.snapshots.ensures.numbers c.segments.ensures.numbers from _ _ _ _ _ c.in_ok-first.first _ c.in_ok-first.ensures.told c.in_ok-first.ensures.count
    _ _ c.in_ok-second.second _ c.in_ok-second.ensures.told c.in_ok-second.ensures.count _ _ c.in_ok-read_snapshots.field-0 _ c.in_ok-read_snapshots.ensures.told c.in_ok-read_snapshots.ensures.count c.in_ok-read_segments.field-0 _ c.in_ok-read_segments.ensures.count
