use Rattle.std.proofs.Common.{Err, sym, subst}
use Rattle.std.proofs.lemmas.Result.{err_from_is_err_and}
use Rattle.folder_check.specs.declared.ends.CheckEnd.{CheckEnd}
use Rattle.folder_check.specs.Checking.{Reports, ReportCause, IsEarly}
use Rattle.folder_check.proofs.Reported.{early_end, unlooked, unlooked_cause, told, told_early, told_cause}
use Rattle.folder_check.proofs.checking.report.Goals as goal

pub returns-in_err-kept-clause-told : goal.returns-in_err-kept-clause-told
returns-in_err-kept-clause-told g c =
    let p = err_from_is_err_and c.from_residual.result c.from_residual.ensures.1 in
    rw p.1 (subst (λ (e : CheckEnd). Reports (g.D.Disk.states c.args.disk.now) (g.D.Disk.states c.look.new.disk) (Err e)) (sym p.2) (unlooked _ _ _ c.in_err-kept.ensures.looks))

pub returns-in_err-kept-clause-early : goal.returns-in_err-kept-clause-early
returns-in_err-kept-clause-early g c =
    let p = err_from_is_err_and c.from_residual.result c.from_residual.ensures.1 in
    rw p.1 (subst IsEarly (sym p.2) (early_end _ _ _ c.in_err-kept.ensures.looks))

pub returns-in_err-kept-clause-cause : goal.returns-in_err-kept-clause-cause
returns-in_err-kept-clause-cause g c =
    let p = err_from_is_err_and c.from_residual.result c.from_residual.ensures.1 in
    rw p.1 (subst (λ (e : CheckEnd). ReportCause (g.D.Disk.faults c.args.disk.now) (g.D.Disk.faults c.look.new.disk) (Err e)) (sym p.2) (unlooked_cause _ _ _ c.in_err-kept.ensures.cause))

pub returns-clause-told : goal.returns-clause-told
returns-clause-told g c = told _ _ c.in_ok-kept.kept c.lines_of.result c.in_ok-kept.ensures.looks c.lines_of.ensures

pub returns-clause-early : goal.returns-clause-early
returns-clause-early g c = told_early c.in_ok-kept.kept c.lines_of.result c.lines_of.ensures

pub returns-clause-cause : goal.returns-clause-cause
returns-clause-cause g c = told_cause _ _ c.in_ok-kept.kept c.lines_of.result c.in_ok-kept.ensures.cause c.lines_of.ensures
