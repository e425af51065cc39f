use Rattle.std.proofs.Common.{Err, sym, subst}
use Rattle.std.proofs.lemmas.Result.{err_from_is_err_and}
use Rattle.segment_store.specs.declared.load_fault.LoadFault.{LoadFault}
use Rattle.segment_store.specs.Loading.{LooksAt}
use Rattle.segment_store.proofs.LoadEnds.{looks_unread, looks_refused, looks_shown}
use Rattle.std.proofs.Common.{refl, arith}
use Rattle.segment_store.proofs.LoadCounting.{counts_err, counts_stop, counts_ok}
use Rattle.segment_store.proofs.store.Store.look.Goals as goal

pub returns-in_err-read_folder-clause-looks : goal.returns-in_err-read_folder-clause-looks
returns-in_err-read_folder-clause-looks g c =
    let p = err_from_is_err_and c.from_residual.result c.from_residual.ensures.1 in
    rw p.1 (subst (λ (f : LoadFault). LooksAt (g.D.Disk.states c.args.disk.now) (g.D.Disk.states c.read_folder.new.disk) (Err f)) (sym p.2) (looks_unread _ _ _ _ c.in_err-read_folder.ensures.told))

pub returns-in_err-check-clause-looks : goal.returns-in_err-check-clause-looks
returns-in_err-check-clause-looks g c =
    let p = err_from_is_err_and c.from_residual-in_err-check.result c.from_residual-in_err-check.ensures.1 in
    rw p.1 (subst (λ (f : LoadFault). LooksAt (g.D.Disk.states c.args.disk.now) (g.D.Disk.states c.read_folder.new.disk) (Err f)) (sym p.2) (looks_refused _ _ c.read_folder.new.read _ _ c.in_ok-read_folder.ensures.told c.in_err-check.ensures))

pub returns-clause-looks : goal.returns-clause-looks
returns-clause-looks g c = looks_shown _ _ c.read_folder.new.read _ c.into_kept.result _ c.in_ok-read_folder.ensures.told c.in_ok-check.ensures c.into_kept.ensures.is

pub returns-in_err-read_folder-clause-count : goal.returns-in_err-read_folder-clause-count
returns-in_err-read_folder-clause-count g c =
    let p = err_from_is_err_and c.from_residual.result c.from_residual.ensures.1 in
    rw p.1 (counts_err _ _ _ _ _ _ _ (λ d. omega arith) c.in_err-read_folder.ensures.count)

pub returns-in_err-check-clause-count : goal.returns-in_err-check-clause-count
returns-in_err-check-clause-count g c =
    let p = err_from_is_err_and c.from_residual-in_err-check.result c.from_residual-in_err-check.ensures.1 in
    rw p.1 (counts_stop _ _ _ _ _ _ _ (λ d. omega arith) c.in_ok-read_folder.ensures.count)

pub returns-clause-count : goal.returns-clause-count
returns-clause-count g c = counts_ok _ _ _ _ _ _ _ (λ d. refl) c.in_ok-read_folder.ensures.count
