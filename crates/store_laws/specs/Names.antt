-- The files of a node, and its folder over a disk.
use Rattle.std.specs.Prelude.{ℕ}
use Rattle.disk_model.specs.Disk.{Files, Disk}
use Rattle.disk_model.specs.Calls.{Call}

-- the two files of metadata, the segments, and the snapshots by the indices that they represent
pub data Name : Type 0 where
  First Second : Name
  Segment : ℕ → Name
  Snapshot : ℕ → Name

abbrev pub NodeFiles : Type 0
NodeFiles = Files Name

abbrev pub NodeDisk : Type 0
NodeDisk = Disk Name

abbrev pub NodeCall : Type 0
NodeCall = Call Name
