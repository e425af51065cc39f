-- One file over memory.
use Rattle.std.specs.Prelude.{ℕ, List}
use Rattle.disk_model.specs.Disk.{Found}

-- as it is read, and as it is on stable storage
pub record MemFile : Type 0 where
  pub name : List ℕ
  pub read : Found
  pub base : Found
