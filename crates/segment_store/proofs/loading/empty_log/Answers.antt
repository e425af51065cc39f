use Rattle.std.proofs.Common.{arith}
use Rattle.std.proofs.lemmas.Result.{err_from_is_err_and}
use Rattle.segment_store.proofs.LoadOpens.{empties_stop, empties_err, empties_ok}
use Rattle.segment_store.proofs.loading.empty_log.Goals as goal

pub returns-in_err-all-clause-empties : goal.returns-in_err-all-clause-empties
returns-in_err-all-clause-empties g c =
    let p = err_from_is_err_and c.from_residual.result c.from_residual.ensures.1 in
    rw p.1 (empties_stop g.D.Disk.tells c.args.number c.args.first _ _)

pub returns-in_err-begin_empty-clause-empties : goal.returns-in_err-begin_empty-clause-empties
returns-in_err-begin_empty-clause-empties g c =
    let p = err_from_is_err_and c.from_residual-in_err-begin_empty.result c.from_residual-in_err-begin_empty.ensures.1 in
    rw p.1 (empties_err g.D.Disk.tells c.args.number c.args.first _ _ _ _ (omega (arith, c.if-number-ge-NUMBER_END.false)) c.in_err-begin_empty.ensures.went)

pub returns-clause-empties : goal.returns-clause-empties
returns-clause-empties g c = empties_ok g.D.Disk.tells c.args.number c.args.first _ _ c.in_ok-begin_empty.field-0 _ c.in_ok-begin_empty.ensures.went
