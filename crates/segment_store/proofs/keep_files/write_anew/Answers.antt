use Rattle.std.proofs.lemmas.Result.{err_from_is_err_and}
use Rattle.disk_model.proofs.Runs.{ran_stops, ran_then}
use Rattle.segment_store.proofs.KeepRuns.{cut_may_write}
use Rattle.disk_model.proofs.Counting.{calls_then, calls_stop}
use Rattle.segment_store.proofs.keep_files.write_anew.Goals as goal

pub returns-in_err-cut-clause-ran : goal.returns-in_err-cut-clause-ran
returns-in_err-cut-clause-ran g c = λ known.
    let p = err_from_is_err_and c.from_residual.result c.from_residual.ensures.1 in
    rw p.1 (ran_stops _ _ _ _ _ _ c.in_err-cut.ensures.told)

pub returns-clause-ran : goal.returns-clause-ran
returns-clause-ran g c = λ known.
    let cut = c.in_ok-cut.ensures.told in
    ran_then _ _ _ _ _ _ c.write_new.result cut (c.write_new.ensures.ran (cut_may_write c.args.name.now g.D.Disk.tells _ _ c.in_ok-cut.field-0 known cut))

pub returns-in_err-cut-clause-count : goal.returns-in_err-cut-clause-count
returns-in_err-cut-clause-count g c =
    let p = err_from_is_err_and c.from_residual.result c.from_residual.ensures.1 in
    rw p.1 (calls_stop 3 _ _ _ c.in_err-cut.ensures.count)

pub returns-clause-count : goal.returns-clause-count
returns-clause-count g c = calls_then 3 _ _ _ c.write_new.result c.in_ok-cut.ensures.count c.write_new.ensures.count
