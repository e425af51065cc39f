-- Between two calls of the store: what is read is on the disk.
use Rattle.std.specs.Prelude.{◌≡◌, ℕ, ◌+◌, ◌≤◌, true, false, length}
use Rattle.store_laws.specs.Names.{First, Second, Segment, Snapshot, NodeFiles, NodeDisk}
use Rattle.disk_model.specs.Disk.{LeavesFile}
use Rattle.disk_model.specs.Rest.{Rest}
use Rattle.store_laws.specs.Store.{snap_in, Format, Snap, Log, is_whole, behind, log_of, empty_log, all_batches, segments}

-- the log of the files is kept after the snapshot, or ends before it
pub data Steady (s : Snap) (l : Log) : Type 0 where
  fits : behind s l ≡ l → Steady s l
  ends_before : l.first + length l.entries ≤ s.index → Steady s l

abbrev pub file_log : Format → ℕ → NodeFiles → Log
file_log f top g = log_of empty_log (all_batches f (segments top g))

-- the snapshots may be on their way, provided that each crash leaves the same newest one
pub record Settled (f : Format) (top : ℕ) (d : NodeDisk) : Type 0 where
  pub first : Rest (d.held First) (d.read First)
  pub second : Rest (d.held Second) (d.read Second)
  pub segment : (k : ℕ) → Rest (d.held (Segment k)) (d.read (Segment k))
  pub above : (k : ℕ) → top ≤ k → (d.read (Segment k)).there ≡ false
  pub whole : (k : ℕ) → (d.read (Segment k)).there ≡ true → is_whole f (d.read (Segment k)).bytes ≡ true
  pub snap_read : (k : ℕ) → LeavesFile (d.held (Snapshot k)) (d.read (Snapshot k))
  pub snap : (g : NodeFiles) → ((k : ℕ) → LeavesFile (d.held (Snapshot k)) (g (Snapshot k))) → snap_in f g ≡ snap_in f d.read
  pub snap_rest : (k : ℕ) → (snap_in f d.read).index ≤ k → Rest (d.held (Snapshot k)) (d.read (Snapshot k))
  pub steady : Steady (snap_in f d.read) (file_log f top d.read)
