use Rattle.std.proofs.Common.{◌≡◌, ◌∙◌}
use Rattle.std.proofs.lemmas.Result.{err_from_is_err_and}
use Rattle.store_laws.specs.Names.{Segment}
use Rattle.segment_store.specs.FileNames.{file_name}
use Rattle.segment_store.proofs.Halves.{to_err, to_ok, named_write}
use Rattle.segment_store.proofs.Keeping.{counted}
use Rattle.disk_model.proofs.Counting.{calls_failed, calls_as}
use Rattle.segment_store.proofs.store.write_batch.Goals as goal

pub returns-in_err-is_begun-clause-went : goal.returns-in_err-is_begun-clause-went
returns-in_err-is_begun-clause-went g c = λ may.
    let p = err_from_is_err_and c.from_residual-in_err-is_begun.result c.from_residual-in_err-is_begun.ensures.1 in
    let name : c.as_str.result.now ≡ file_name (Segment c.args.number) = c.as_str.ensures.value ∙ c.in_ok-name.ensures in
    rw p.1 (to_err _ _ _ c.in_err-is_begun.field-0.0 _ (named_write _ _ name g.D.Disk.tells _ _ c.args.size c.args.batch.now _
    c.in_err-is_begun.ensures.told may))

pub returns-clause-went : goal.returns-clause-went
returns-clause-went g c = λ may.
    let name : c.as_str.result.now ≡ file_name (Segment c.args.number) = c.as_str.ensures.value ∙ c.in_ok-name.ensures in
    to_ok _ _ _ c.in_ok-is_begun.is_begun _ (named_write _ _ name g.D.Disk.tells _ _ c.args.size c.args.batch.now _ c.in_ok-is_begun.ensures.told may)

pub returns-in_err-is_begun-clause-stays : goal.returns-in_err-is_begun-clause-stays
returns-in_err-is_begun-clause-stays g c =
    let p = err_from_is_err_and c.from_residual-in_err-is_begun.result c.from_residual-in_err-is_begun.ensures.1 in
    rw p.1 (counted _ _ _ _ _ _ c.in_err-is_begun.field-0.0 c.in_err-is_begun.ensures.cause c.in_err-is_begun.ensures.want)

pub returns-in_err-is_begun-clause-count : goal.returns-in_err-is_begun-clause-count
returns-in_err-is_begun-clause-count g c =
    let p = err_from_is_err_and c.from_residual-in_err-is_begun.result c.from_residual-in_err-is_begun.ensures.1 in
    rw p.1 (calls_failed _ _ _ c.in_err-is_begun.field-0.0 _ c.in_err-is_begun.ensures.count)

pub returns-clause-count : goal.returns-clause-count
returns-clause-count g c = calls_as _ _ _ c.in_ok-is_begun.is_begun _ c.in_ok-is_begun.ensures.count
