use Rattle.std.proofs.Common.{◌≡◌, ◌%◌, ap, ◌∙◌}
use Rattle.std.specs.Prelude.{◌==◌}
use Rattle.std.proofs.lemmas.Result.{err_from_is_err_and}
use Rattle.store_laws.specs.Meta.{file_of}
use Rattle.store_format.specs.Metadata.{block_bytes}
use Rattle.segment_store.specs.FileNames.{file_name}
use Rattle.segment_store.proofs.Keeping.{block_err, block_ok, counted}
use Rattle.disk_model.proofs.Counting.{calls_failed, calls_as}
use Rattle.segment_store.proofs.store.write_metadata.Goals as goal

pub returns-in_err-write_block-clause-went : goal.returns-in_err-write_block-clause-went
returns-in_err-write_block-clause-went g c = λ may.
    let p = err_from_is_err_and c.from_residual-in_err-write_block.result c.from_residual-in_err-write_block.ensures.1 in
    let name : c.as_str.result.now ≡ file_name (file_of (c.args.metadata.now.version % 2 == 1)) = c.as_str.ensures.value ∙ c.in_ok-name.ensures ∙ ap file_name c.metadata_file.ensures.file in
    let block : c.as_slice.result.now ≡ block_bytes c.args.metadata.now = c.as_slice.ensures.value ∙ c.in_ok-block.ensures in
    rw p.1 (block_err _ _ _ _ c.args.size g.D.Disk.tells _ _ name block _ _ c.in_err-write_block.ensures.ran may)

pub returns-clause-went : goal.returns-clause-went
returns-clause-went g c = λ may.
    let name : c.as_str.result.now ≡ file_name (file_of (c.args.metadata.now.version % 2 == 1)) = c.as_str.ensures.value ∙ c.in_ok-name.ensures ∙ ap file_name c.metadata_file.ensures.file in
    let block : c.as_slice.result.now ≡ block_bytes c.args.metadata.now = c.as_slice.ensures.value ∙ c.in_ok-block.ensures in
    block_ok _ _ _ _ c.args.size g.D.Disk.tells _ _ name block c.in_ok-write_block.field-0 tt c.in_ok-write_block.ensures.ran may

pub returns-in_err-write_block-clause-stays : goal.returns-in_err-write_block-clause-stays
returns-in_err-write_block-clause-stays g c =
    let p = err_from_is_err_and c.from_residual-in_err-write_block.result c.from_residual-in_err-write_block.ensures.1 in
    rw p.1 (counted _ _ _ _ _ _ c.in_err-write_block.field-0.0 c.in_err-write_block.ensures.cause c.in_err-write_block.ensures.want)

pub returns-in_err-write_block-clause-count : goal.returns-in_err-write_block-clause-count
returns-in_err-write_block-clause-count g c =
    let p = err_from_is_err_and c.from_residual-in_err-write_block.result c.from_residual-in_err-write_block.ensures.1 in
    rw p.1 (calls_failed _ _ _ c.in_err-write_block.field-0.0 _ c.in_err-write_block.ensures.count)

pub returns-clause-count : goal.returns-clause-count
returns-clause-count g c = calls_as _ _ _ c.in_ok-write_block.field-0 tt c.in_ok-write_block.ensures.count
