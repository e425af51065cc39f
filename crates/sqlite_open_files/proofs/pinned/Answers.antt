use Rattle.std.proofs.Common.{subst, sym}
use Rattle.sqlite_store.specs.FileStore.{files}
use Rattle.sqlite_open_files.specs.Pins.{IsPinned}
use Rattle.sqlite_open_files.proofs.pinned.Goals as goal

pub read_as-requires-clause-log : goal.read_as-requires-clause-log
read_as-requires-clause-log g c = subst (λ d. IsPinned g.N.Pin.pinned (files d.value.store).0) (sym c.new.ensures) c.requires.log

pub read_as-requires-clause-main : goal.read_as-requires-clause-main
read_as-requires-clause-main g c = subst (λ d. IsPinned g.N.Pin.pinned (files d.value.store).1) (sym c.new.ensures) c.requires.main
