use Rattle.std.proofs.lemmas.Result.{err_from_is_err_and}
use Rattle.disk_model.proofs.Runs.{ran_stops, ran_then, ran_last}
use Rattle.disk_model.proofs.Counting.{calls_then, calls_stop, calls_one}
use Rattle.segment_store.proofs.segment.grow_segment.Goals as goal

pub returns-in_err-write_at-clause-ran : goal.returns-in_err-write_at-clause-ran
returns-in_err-write_at-clause-ran g c = λ known.
    let p = err_from_is_err_and c.from_residual.result c.from_residual.ensures.1 in
    rw p.1 (ran_stops _ _ _ _ _ _ (c.in_err-write_at.ensures.told known))

pub returns-clause-ran : goal.returns-clause-ran
returns-clause-ran g c = λ known.
    ran_then _ _ _ _ _ _ c.sync.result (c.in_ok-write_at.ensures.told known) (ran_last _ _ _ c.sync.result c.sync.ensures.told)

pub returns-in_err-write_at-clause-count : goal.returns-in_err-write_at-clause-count
returns-in_err-write_at-clause-count g c =
    let p = err_from_is_err_and c.from_residual.result c.from_residual.ensures.1 in
    rw p.1 (calls_stop 1 _ _ _ c.in_err-write_at.ensures.count)

pub returns-clause-count : goal.returns-clause-count
returns-clause-count g c = calls_then 1 _ _ _ c.sync.result c.in_ok-write_at.ensures.count (calls_one _ _ c.sync.result c.sync.ensures.count)
