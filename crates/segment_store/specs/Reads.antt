-- What is read of a folder's files.
use Rattle.std.specs.Prelude.{◌≡◌, ◌⊎◌, ℕ, ◌+◌, ◌-◌, min, ◌<◌, ◌≤◌, Bool, true, false, List, [], length, take, map, Option}
use Rattle.store_laws.specs.Names.{First, Second, Segment, Snapshot, NodeFiles, NodeDisk}
use Rattle.store_laws.specs.Store.{Snap, no_snap, meta_of, snap_in}
use Rattle.store_laws.specs.Meta.{file_of}
use Rattle.store_laws.specs.Damage.{Numbered}
use Rattle.store_format.specs.Metadata.{meta_in}
use Rattle.store_format.specs.Snapshots.{snap_of}
use Rattle.store_format.specs.NodeFormat.{node_format}
use Rattle.store_format.specs.SegmentLog.{all_read, IsRead}
use Rattle.store_format.specs.FilesRead.{FilesRead, with_meta}
use Rattle.segment_store.specs.Open.{HasSize, is_listed}

-- more bytes of a file were read after a front of it, or there are no more
abbrev pub ReadsOn : List ℕ → List ℕ → List ℕ → Bool → Type 0
ReadsOn all before after true = before ≡ take (length before) all → after ≡ take (length after) all
ReadsOn all before after false = (after ≡ before) × (before ≡ take (length before) all → before ≡ all)

-- a piece more was read, of as many bytes as there are and as have room, or there are no more
abbrev pub ReadsPiece : ℕ → List ℕ → List ℕ → List ℕ → Bool → Type 0
ReadsPiece room all before after true = (length after ≡ length before + min room (length all - length before)) × (length before < length all)
ReadsPiece room all before after false = length all ≤ length before

-- a file of metadata was read, if it is there
abbrev pub ReadsMeta : Bool → Bool → NodeDisk → FilesRead → FilesRead → Option ℕ → Type 0
ReadsMeta first there d old new size =
    (d.read (file_of first)).there ≡ there → ((d.read (file_of first)).there ≡ false → (d.read (file_of first)).bytes ≡ [])
    → (new ≡ with_meta (meta_in first (d.read (file_of first)).bytes) old) × HasSize size (d.read (file_of first))

abbrev pub snap_at : NodeDisk → ℕ → Snap
snap_at d j = snap_of j (d.read (Snapshot j)).bytes

-- the newest of the snapshots with these numbers
pub record IsNewest (d : NodeDisk) (ms : List ℕ) (s : Snap) : Type 0 where
  pub least : (j : ℕ) → is_listed j ms ≡ true → (snap_at d j).index ≤ s.index
  pub from : (s ≡ no_snap) ⊎ ((j : ℕ) × ((j < 10000000000000000) × (s ≡ snap_at d j)))

pub record ReadsSnaps (d : NodeDisk) (ms : List ℕ) (old new : FilesRead) : Type 0 where
  pub meta : new.meta ≡ old.meta
  pub segments : new.segments ≡ old.segments
  pub newest : old.snap ≡ no_snap → IsNewest d ms new.snap

abbrev pub at : NodeFiles → ℕ → Numbered
at g n = record { number = n; bytes = (g (Segment n)).bytes }

pub record ReadsSegments (d : NodeDisk) (ms : List ℕ) (old new : FilesRead) : Type 0 where
  pub meta : new.meta ≡ old.meta
  pub snap : new.snap ≡ old.snap
  pub segments : new.segments ≡ all_read node_format old.segments (map (at d.read) ms)

-- all files of the folder were read
pub record ReadsAll (d : NodeDisk) (r : FilesRead) (first second : Option ℕ) : Type 0 where
  pub meta : r.meta ≡ meta_of node_format d.read
  pub snap : r.snap ≡ snap_in node_format d.read
  pub segments : IsRead node_format 10000000000000000 d.read r.segments
  pub first_size : HasSize first (d.read First)
  pub second_size : HasSize second (d.read Second)
