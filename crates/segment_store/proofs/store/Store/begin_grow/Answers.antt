use Rattle.std.proofs.Common.{◌≤◌, refl, subst}
use Rattle.std.proofs.lemmas.Result.{err_from_is_err_and}
use Rattle.segment_store.specs.declared.fault.StoreFault.{StoreFault}
use Rattle.segment_store.specs.Open.{Open}
use Rattle.segment_store.proofs.Halves.{failed_write, begun_write, has_begun}
use Rattle.segment_store.proofs.store.Store.begin_grow.Goals as goal

pub returns-clause-begun : goal.returns-clause-begun
returns-clause-begun g c = λ room.
    has_begun c.args.self.now c.args.batch.now c.args.size c.last.result c.in_ok-unsynced.unsynced room c.last.ensures.number
    c.in_ok-unsynced.ensures.unsynced.0 c.in_ok-unsynced.ensures.unsynced.1

pub returns-in_err-unsynced-clause-kept : goal.returns-in_err-unsynced-clause-kept
returns-in_err-unsynced-clause-kept g c =
    let p = err_from_is_err_and c.from_residual.result c.from_residual.ensures.1 in
    rw p.1 (λ k b is fits can room. failed_write g.D.Disk.tells (g.D.Disk.states c.args.disk.now) (g.D.Disk.states c.write_batch.new.disk)
    c.args.self.now c.args.self.now k b fits can c.args.size c.last.result room c.last.ensures.number c.args.batch.now is
    c.in_err-unsynced.field-0.0 p.0 (subst (λ (o : Open). o.next ≤ 10000000000000000) c.self.view_is c.self.invariant.0) c.in_err-unsynced.ensures.went)

pub returns-clause-kept : goal.returns-clause-kept
returns-clause-kept g c = λ k b is fits can room.
    begun_write g.D.Disk.tells (g.D.Disk.states c.args.disk.now) (g.D.Disk.states c.write_batch.new.disk) c.args.self.now c.args.self.now k b fits can
    c.args.size c.last.result room c.last.ensures.number c.args.batch.now is
    StoreFault c.in_ok-unsynced.unsynced c.in_ok-unsynced.unsynced refl c.in_ok-unsynced.ensures.unsynced.1 c.in_ok-unsynced.ensures.went
