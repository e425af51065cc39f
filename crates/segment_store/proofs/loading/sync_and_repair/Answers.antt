use Rattle.std.proofs.lemmas.Result.{err_from_is_err_and}
use Rattle.segment_store.proofs.LoadRuns.{front_err, front_ok}
use Rattle.std.proofs.Common.{suc, ◌+◌, length, sym}
use Rattle.segment_store.specs.LoadCounts.{repair_count}
use Rattle.disk_model.proofs.Counting.{calls_broke, calls_more}
use Rattle.segment_store.proofs.CountedCalls.{counts_as}
use Rattle.segment_store.proofs.loading.sync_and_repair.Goals as goal

pub returns-in_err-sync_files-clause-went : goal.returns-in_err-sync_files-clause-went
returns-in_err-sync_files-clause-went g c =
    let p = err_from_is_err_and c.from_residual.result c.from_residual.ensures.1 in
    rw p.1 (front_err c.args.list.now c.args.last c.files.result.now _ _ _ _ c.files.ensures.files c.in_err-sync_files.ensures.went)

pub returns-clause-went : goal.returns-clause-went
returns-clause-went g c = front_ok c.args.list.now c.args.last c.files.result.now _ _ _ c.in_ok-sync_files.field-0 c.repair.result c.files.ensures.files c.in_ok-sync_files.ensures.went c.repair.ensures.went

pub returns-in_err-sync_files-clause-count : goal.returns-in_err-sync_files-clause-count
returns-in_err-sync_files-clause-count g c =
    let p = err_from_is_err_and c.from_residual.result c.from_residual.ensures.1 in
    rw p.1 (counts_as _ (suc (length c.args.list.now.files) + repair_count c.args.last) _ _ _ (λ i. suc (length (sym c.files.ensures.files i)) + repair_count c.args.last) (calls_broke (suc (length c.files.result.now)) (repair_count c.args.last) _ _ _ _ c.in_err-sync_files.ensures.count))

pub returns-clause-count : goal.returns-clause-count
returns-clause-count g c =
    counts_as _ (suc (length c.args.list.now.files) + repair_count c.args.last) _ _ c.repair.result (λ i. suc (length (sym c.files.ensures.files i)) + repair_count c.args.last)
    (calls_more (suc (length c.files.result.now)) (repair_count c.args.last) _ _ _ c.in_ok-sync_files.field-0 c.repair.result c.in_ok-sync_files.ensures.count c.repair.ensures.count)
