use Rattle.std.proofs.Common.{◌≡◌, ap, ◌∙◌}
use Rattle.std.proofs.lemmas.Result.{err_from_is_err_and}
use Rattle.disk_model.specs.Trait.{Text}
use Rattle.segment_store.specs.FileNames.{file_name, name_of}
use Rattle.segment_store.proofs.LoadEnds.{cause_again, cause_fine}
use Rattle.segment_store.proofs.LoadSees.{sees_ok, sees_err}
use Rattle.std.proofs.Common.{length, sym, arith}
use Rattle.segment_store.specs.LoadCounts.{reads_for}
use Rattle.segment_store.specs.Keeps.{folder}
use Rattle.segment_store.proofs.LoadCounting.{counts_err, counts_ok}
use Rattle.segment_store.proofs.loading.reads.read_file.Goals as goal

pub returns-in_err-read_whole-clause-told : goal.returns-in_err-read_whole-clause-told
returns-in_err-read_whole-clause-told g c =
    let p = err_from_is_err_and c.from_residual-in_err-read_whole.result c.from_residual-in_err-read_whole.ensures.1 in
    rw p.1 (sees_err _ _ _ _ _ _ c.in_err-read_whole.ensures.told)

pub returns-in_err-read_whole-clause-cause : goal.returns-in_err-read_whole-clause-cause
returns-in_err-read_whole-clause-cause g c =
    let p = err_from_is_err_and c.from_residual-in_err-read_whole.result c.from_residual-in_err-read_whole.ensures.1 in
    rw p.1 (cause_again _ _ _ _ p.2 c.in_err-read_whole.ensures.cause)

pub returns-clause-told : goal.returns-clause-told
returns-clause-told g c =
    let name : c.as_str.result.now ≡ file_name (name_of c.args.file) = c.as_str.ensures.value ∙ c.in_ok-name.ensures in
    sees_ok _ _ _ _ _ _ c.in_ok-read_whole.ensures.told (λ d e. e ∙ ap (λ (n : Text). (d.read n).bytes) name)

pub returns-clause-cause : goal.returns-clause-cause
returns-clause-cause g c = cause_fine _ _ _ _ c.in_ok-read_whole.ensures.cause

pub returns-in_err-read_whole-clause-count : goal.returns-in_err-read_whole-clause-count
returns-in_err-read_whole-clause-count g c =
    let p = err_from_is_err_and c.from_residual-in_err-read_whole.result c.from_residual-in_err-read_whole.ensures.1 in
    let name : c.as_str.result.now ≡ file_name (name_of c.args.file) = c.as_str.ensures.value ∙ c.in_ok-name.ensures in
    rw p.1 (counts_err _ _ _ _ _ _ _ (λ d. let z : reads_for (length (d.read c.as_str.result.now).bytes) ≡ reads_for (length ((folder d).read (name_of c.args.file)).bytes) = ap (λ (n : Text). reads_for (length (d.read n).bytes)) name in omega (arith, z)) c.in_err-read_whole.ensures.count)

pub returns-clause-count : goal.returns-clause-count
returns-clause-count g c =
    let name : c.as_str.result.now ≡ file_name (name_of c.args.file) = c.as_str.ensures.value ∙ c.in_ok-name.ensures in
    counts_ok _ _ _ _ _ _ _ (λ d. ap (λ (n : Text). reads_for (length (d.read n).bytes)) (sym name)) c.in_ok-read_whole.ensures.count
