-- What a node may start with.
use Rattle.std.specs.Prelude.{◌+◌, ◌<◌, ◌≤◌, suc, length}
use Rattle.store_laws.specs.Store.{Kept}

-- A log that begins at 1 or later, at most one past the snapshot, and reaches at least that far.
pub record CanStart (k : Kept) : Type 0 where
  pub first : 0 < k.log.first
  pub low : k.log.first ≤ suc k.snap.index
  pub within : k.snap.index < k.log.first + length k.log.entries
