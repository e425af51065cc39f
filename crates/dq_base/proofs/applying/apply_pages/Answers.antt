use Rattle.std.proofs.lemmas.Result.{err_from_is_err_and}
use Rattle.dq_base.proofs.PageFaults.{page_fault-refuses}
use Rattle.dq_base.proofs.applying.apply_pages.Goals as goal

pub returns-in_err-lengths-clause-refused : goal.returns-in_err-lengths-clause-refused
returns-in_err-lengths-clause-refused c =
    let p = err_from_is_err_and c.from_residual.result c.from_residual.ensures.1 in
    rw (p.1, p.2) (page_fault-refuses c.args.pages.now c.in_err-lengths.field-0.0 c.in_err-lengths.ensures)
