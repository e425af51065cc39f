use Rattle.std.proofs.Common.{subst}
use Rattle.sqlite_open_files.specs.Pins.{IsPinned}
use Rattle.sqlite_open_files.proofs.pinned_file.PinnedFile.tells.Goals as goal

pub returns : goal.returns
returns g c = subst (λ f. IsPinned g.K.Pin.pinned f) c.self.view_is c.self.invariant
