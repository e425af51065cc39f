use Rattle.std.proofs.Common.{sym, subst}
use Rattle.sqlite_store.specs.FileStore.{files}
use Rattle.sqlite_open_files.specs.Pins.{IsPinned}
use Rattle.sqlite_engine.proofs.connection.loosened.Goals as goal

pub returns-clause-pinned : goal.returns-clause-pinned
returns-clause-pinned g c = record {
  log = subst (λ d. IsPinned g.K.Pin.pinned (files d.store).0) (sym c.pinned.ensures)
      (subst (λ f. IsPinned g.K.Pin.pinned f) (rw c.deref.ensures at c.log_of.ensures) c.tells.ensures);
  main = subst (λ d. IsPinned g.K.Pin.pinned (files d.store).1) (sym c.pinned.ensures)
      (subst (λ f. IsPinned g.K.Pin.pinned f) (rw c.deref-2.ensures at c.main_of.ensures) c.tells-2.ensures);
}
