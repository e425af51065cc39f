use Rattle.std.proofs.Common.{◌≡◌, length, None}
use Rattle.std.specs.List.{AllWithin}
use Rattle.sqlite_engine.specs.declared.open_images.OpenImage.{OpenImage}
use Rattle.sqlite_engine.proofs.open_images.forget.Given as goal

-- those before have no number
abbrev pub invariant-loop-at : goal.invariant-loop-at
invariant-loop-at l = (length l.list ≡ l.at-end) × AllWithin (λ (it : OpenImage). it.number ≡ None) l.list 0 l.at
