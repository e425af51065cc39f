use Rattle.std.proofs.lemmas.Result.{err_from_is_err_and}
use Rattle.disk_model.proofs.Runs.{ran_none, ran_stops, ran_then, ran_last, ran_replace_new, ran_replace_there}
use Rattle.disk_model.proofs.Counting.{calls_then, calls_stop, calls_one, calls_replace_new}
use Rattle.disk_model.proofs.replacing.replace.Goals as goal

pub returns-in_err-write_at-clause-ran : goal.returns-in_err-write_at-clause-ran
returns-in_err-write_at-clause-ran g c = λ known.
    let p = err_from_is_err_and c.from_residual.result c.from_residual.ensures.1 in
    rw p.1 (ran_stops _ _ _ _ _ _ (c.in_err-write_at.ensures.told known))

pub returns-in_err-sync-clause-ran : goal.returns-in_err-sync-clause-ran
returns-in_err-sync-clause-ran g c = λ known.
    let p = err_from_is_err_and c.from_residual-in_err-sync.result c.from_residual-in_err-sync.ensures.1 in
    rw p.1 (ran_then _ _ _ _ _ _ _ (c.in_ok-write_at.ensures.told known) (ran_stops _ _ _ _ _ _ c.in_err-sync.ensures.told))

pub returns-then-is_there-clause-ran : goal.returns-then-is_there-clause-ran
returns-then-is_there-clause-ran g c = λ known.
    ran_replace_there c.args.name.now c.args.bytes.now c.args.is_there _ _ _ c.if-is_there.true
    (ran_then _ _ _ _ _ _ _ (c.in_ok-write_at.ensures.told known) (ran_then _ _ _ _ _ _ _ c.in_ok-sync.ensures.told (ran_none _ _)))

pub returns-clause-ran : goal.returns-clause-ran
returns-clause-ran g c = λ known.
    ran_replace_new c.args.name.now c.args.bytes.now c.args.is_there _ _ c.sync_names.result c.if-is_there.false
    (ran_then _ _ _ _ _ _ c.sync_names.result (c.in_ok-write_at.ensures.told known)
    (ran_then _ _ _ _ _ _ c.sync_names.result c.in_ok-sync.ensures.told (ran_last _ _ _ c.sync_names.result c.sync_names.ensures.told)))

pub returns-in_err-sync-clause-count : goal.returns-in_err-sync-clause-count
returns-in_err-sync-clause-count g c =
    let p = err_from_is_err_and c.from_residual-in_err-sync.result c.from_residual-in_err-sync.ensures.1 in
    rw p.1 (calls_then _ _ _ _ _ c.in_ok-write_at.ensures.count (calls_stop _ _ _ _ c.in_err-sync.ensures.count))

pub returns-clause-count : goal.returns-clause-count
returns-clause-count g c =
    calls_replace_new c.args.name.now c.args.bytes.now c.args.is_there _ _ c.sync_names.result c.if-is_there.false
    (calls_then _ _ _ _ c.sync_names.result c.in_ok-write_at.ensures.count (calls_then _ _ _ _ c.sync_names.result c.in_ok-sync.ensures.count (calls_one _ _ c.sync_names.result c.sync_names.ensures.count)))
