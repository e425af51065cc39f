-- Files at rest: what is read of them is on the disk.
use Rattle.std.specs.Prelude.{◌≡◌, false, cond, []}
use Rattle.disk_model.specs.Disk.{Found, Held, Disk, Sure, Absent, Leaves}

-- a file at rest
pub record Rest (h : Held) (f : Found) : Type 0 where
  pub since : h.since ≡ []
  pub bytes : h.bytes ≡ f.bytes
  pub standing : h.standing ≡ cond f.there Sure Absent
  pub empty : f.there ≡ false → f.bytes ≡ []

-- after a crash the disk is at rest with files that it may leave
pub record AfterCrash {N : Type 0} (d e : Disk N) : Type 0 where
  pub left : Leaves d e.read
  pub rest : (n : N) → Rest (e.held n) (e.read n)
