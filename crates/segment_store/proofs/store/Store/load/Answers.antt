use Rattle.std.proofs.Common.{Err, sym, subst}
use Rattle.std.proofs.lemmas.Result.{err_from_is_err_and}
use Rattle.segment_store.specs.declared.load_fault.LoadFault.{LoadFault}
use Rattle.segment_store.specs.Loading.{Loads}
use Rattle.segment_store.proofs.LoadEnds.{loads_refused, loads_failed, loads_opened}
use Rattle.segment_store.proofs.LoadCountLists.{load_unread, load_refused, load_failed, load_done}
use Rattle.segment_store.proofs.store.Store.load.Goals as goal

pub returns-in_err-check-clause-loads : goal.returns-in_err-check-clause-loads
returns-in_err-check-clause-loads g c =
    let p = err_from_is_err_and c.from_residual-in_err-check.result c.from_residual-in_err-check.ensures.1 in
    rw p.1 (subst (λ (f : LoadFault). Loads (g.D.Disk.states c.args.disk.now) (g.D.Disk.states c.read_folder.new.disk) (Err f)) (sym p.2) (loads_refused _ _ c.read_folder.new.read _ _ c.in_ok-list.ensures.told c.in_err-check.ensures))

pub returns-in_err-store-clause-loads : goal.returns-in_err-store-clause-loads
returns-in_err-store-clause-loads g c =
    let p = err_from_is_err_and c.from_residual-in_err-store.result c.from_residual-in_err-store.ensures.1 in
    rw p.1 (subst (λ (f : LoadFault). Loads (g.D.Disk.states c.args.disk.now) (g.D.Disk.states c.settle.new.disk) (Err f)) (sym p.2) (loads_failed _ _ _ c.read_folder.new.read _ _ _ c.in_ok-list.ensures.told c.in_ok-check.ensures c.in_err-store.ensures.settles))

pub returns-clause-loads : goal.returns-clause-loads
returns-clause-loads g c = loads_opened _ _ _ c.read_folder.new.read _ c.in_ok-store.store c.into_kept.result _ c.in_ok-list.ensures.told c.in_ok-check.ensures c.in_ok-store.ensures.settles c.into_kept.ensures.is

pub returns-in_err-list-clause-count : goal.returns-in_err-list-clause-count
returns-in_err-list-clause-count g c =
    let p = err_from_is_err_and c.from_residual.result c.from_residual.ensures.1 in
    rw p.1 (load_unread _ _ _ c.in_err-list.field-0.0 _ c.in_err-list.ensures.count)

pub returns-in_err-check-clause-count : goal.returns-in_err-check-clause-count
returns-in_err-check-clause-count g c =
    let p = err_from_is_err_and c.from_residual-in_err-check.result c.from_residual-in_err-check.ensures.1 in
    rw p.1 (load_refused _ _ _ _ _ c.in_ok-list.ensures.count)

pub returns-in_err-store-clause-count : goal.returns-in_err-store-clause-count
returns-in_err-store-clause-count g c =
    let p = err_from_is_err_and c.from_residual-in_err-store.result c.from_residual-in_err-store.ensures.1 in
    rw p.1 (load_failed _ _ _ _ _ c.read_folder.new.read _ c.in_ok-list.ensures.told c.in_ok-list.ensures.count _ _ c.in_err-store.ensures.count)

pub returns-clause-count : goal.returns-clause-count
returns-clause-count g c = load_done _ _ _ _ _ c.read_folder.new.read _ c.in_ok-list.ensures.told c.in_ok-list.ensures.count _ _ c.in_ok-store.ensures.count
