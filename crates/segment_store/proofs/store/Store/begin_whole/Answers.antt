use Rattle.std.proofs.lemmas.Result.{err_from_is_err_and}
use Rattle.segment_store.specs.declared.fault.StoreFault.{StoreFault}
use Rattle.segment_store.proofs.Halves.{begun_new, failed_new, has_whole}
use Rattle.segment_store.proofs.store.Store.begin_whole.Goals as goal

pub returns-clause-begun : goal.returns-clause-begun
returns-clause-begun g c = λ room. has_whole c.args.self.now c.begin.new.self c.args.batch.now room c.in_ok-begin.ensures.store

pub returns-in_err-begin-clause-kept : goal.returns-in_err-begin-clause-kept
returns-in_err-begin-clause-kept g c =
    let p = err_from_is_err_and c.from_residual.result c.from_residual.ensures.1 in
    rw p.1 (λ k b is fits can room. failed_new g.D.Disk.tells (g.D.Disk.states c.args.disk.now) (g.D.Disk.states c.begin.new.disk) c.args.self.now
    c.begin.new.self k b c.in_err-begin.field-0.0 p.0 (c.in_err-begin.ensures.kept k b is fits can room))

pub returns-clause-kept : goal.returns-clause-kept
returns-clause-kept g c = λ k b is fits can room.
    begun_new g.D.Disk.tells (g.D.Disk.states c.args.disk.now) (g.D.Disk.states c.begin.new.disk) c.args.self.now c.begin.new.self k b StoreFault StoreFault
    c.in_ok-begin.field-0 (c.in_ok-begin.ensures.kept k b is fits can room)
