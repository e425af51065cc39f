use Rattle.std.proofs.Common.{sym, subst}
use Rattle.sqlite_files.specs.Recording.{Recorded}
use Rattle.sqlite_open_files.specs.Pins.{IsPinned}
use Rattle.sqlite_open_files.proofs.pinned_file.PinnedFileDisk.read_checked.Goals as goal

pub invariant_of-self : goal.invariant_of-self
invariant_of-self g c = subst (λ (file : Recorded). IsPinned g.K.Pin.pinned file) (sym c.read_checked.ensures.same) c.self.invariant
