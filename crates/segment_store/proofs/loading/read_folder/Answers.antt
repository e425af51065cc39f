use Rattle.segment_store.proofs.LoadReads.{reads_folder}
use Rattle.std.proofs.lemmas.Result.{err_from_is_err_and}
use Rattle.segment_store.proofs.LoadCountLists.{list_failed, reads_failed, reads_done}
use Rattle.segment_store.proofs.loading.read_folder.Goals as goal

pub returns-clause-told : goal.returns-clause-told
returns-clause-told g c = reads_folder _ _ _ c.in_ok-list.list c.read_files.new.read c.in_ok-sizes.sizes c.in_ok-list.ensures.told c.in_ok-sizes.ensures.told

pub returns-in_err-list-clause-count : goal.returns-in_err-list-clause-count
returns-in_err-list-clause-count g c =
    let p = err_from_is_err_and c.from_residual.result c.from_residual.ensures.1 in
    rw p.1 (list_failed _ _ _ _ c.in_err-list.ensures.count)

pub returns-in_err-sizes-clause-count : goal.returns-in_err-sizes-clause-count
returns-in_err-sizes-clause-count g c =
    let p = err_from_is_err_and c.from_residual-in_err-sizes.result c.from_residual-in_err-sizes.ensures.1 in
    rw p.1 (reads_failed _ _ _ _ _ c.in_ok-list.list c.in_ok-list.ensures.told c.in_ok-list.ensures.count _ _ c.in_err-sizes.ensures.count)

pub returns-clause-count : goal.returns-clause-count
returns-clause-count g c = reads_done _ _ _ _ _ c.in_ok-list.list c.in_ok-list.ensures.told c.in_ok-list.ensures.count c.in_ok-sizes.sizes _ c.in_ok-sizes.ensures.count
