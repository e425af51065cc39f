use Rattle.std.proofs.Common.{◌≡◌, ap, ◌∙◌}
use Rattle.std.proofs.lemmas.Result.{err_from_is_err_and}
use Rattle.disk_model.specs.Trait.{Text}
use Rattle.store_laws.specs.Names.{Segment}
use Rattle.segment_store.specs.FileNames.{file_name}
use Rattle.segment_store.proofs.LoadEnds.{cause_again, cause_fine}
use Rattle.segment_store.proofs.LoadSees.{sees_ok, sees_err}
use Rattle.folder_tail.proofs.folder.read_segment.Goals as goal

pub returns-in_err-read_whole-clause-told : goal.returns-in_err-read_whole-clause-told
returns-in_err-read_whole-clause-told g c =
    let p = err_from_is_err_and c.from_residual-in_err-read_whole.result c.from_residual-in_err-read_whole.ensures.1 in
    rw p.1 (sees_err _ _ _ _ _ _ c.in_err-read_whole.ensures.told)

pub returns-in_err-read_whole-clause-cause : goal.returns-in_err-read_whole-clause-cause
returns-in_err-read_whole-clause-cause g c =
    let p = err_from_is_err_and c.from_residual-in_err-read_whole.result c.from_residual-in_err-read_whole.ensures.1 in
    rw p.1 (cause_again _ _ _ _ p.2 c.in_err-read_whole.ensures.cause)

pub returns-clause-told : goal.returns-clause-told
returns-clause-told g c =
    let name : c.as_str.result.now ≡ file_name (Segment c.args.file.now.number) = c.as_str.ensures.value ∙ c.requires in
    sees_ok _ _ _ _ _ _ c.in_ok-read_whole.ensures.told (λ d e. e ∙ ap (λ (n : Text). (d.read n).bytes) name)

pub returns-clause-cause : goal.returns-clause-cause
returns-clause-cause g c = cause_fine _ _ _ _ c.in_ok-read_whole.ensures.cause
