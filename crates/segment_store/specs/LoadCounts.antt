-- How many calls of the disk a load makes, and a look.
use Rattle.std.specs.Prelude.{ℕ, Bool, zero, suc, ◌+◌, ◌/◌, ◌==◌, cond, nat_lt, max, List, [], ◌∷◌, length, Option, Some, None, Result}
use Rattle.disk_model.specs.Disk.{Disk, Found}
use Rattle.disk_model.specs.Trait.{Text, MakesCalls}
use Rattle.store_laws.specs.Names.{First, Second, Segment, Snapshot, NodeFiles}
use Rattle.store_laws.specs.Store.{snap_in}
use Rattle.store_laws.specs.Damage.{numbered}
use Rattle.store_laws.specs.Settled.{file_log}
use Rattle.store_laws.specs.WholeLoad.{is_stale}
use Rattle.store_format.specs.NodeFormat.{node_format}
use Rattle.store_format.specs.Snapshots.{snap_of}
use Rattle.store_format.specs.SegmentLog.{last_in}
use Rattle.store_format.specs.declared.segment_log.LastSegment.{LastSegment}
use Rattle.store_format.specs.FilesRead.{FilesRead}
use Rattle.segment_store.specs.Keeps.{folder}
use Rattle.segment_store.specs.Listed.{FolderList}
use Rattle.segment_store.specs.Loading.{IsSeen}

-- The number of calls goes by what was on the disk: this many were made after Ok, and no more after an Err.
pub record Counts {T E : Type 0} (count : Disk Text → ℕ) (before : Disk Text → Type 0) (made now : ℕ) (result : Result T E) : Type 0 where
  pub each : (d : Disk Text) → before d → MakesCalls (count d) made now result

-- ---- reading

-- a file of this many bytes is read in pieces of 65,536 bytes, and one read more finds its end
abbrev pub reads_for : ℕ → ℕ
reads_for size = suc ((size + 65535) / 65536)

abbrev pub reads_of : Found → ℕ
reads_of f = cond f.there (reads_for (length f.bytes)) 0

-- the segments below a number are read once each
unfoldable pub segment_reads : ℕ → NodeFiles → ℕ
segment_reads zero g = 0
segment_reads (suc n) g = segment_reads n g + reads_of (g (Segment n))

-- the snapshots below a number are read once each, from the greatest index down to the first one that is whole
unfoldable pub snapshot_reads : ℕ → NodeFiles → ℕ
snapshot_reads zero g = 0
snapshot_reads (suc n) g = cond (g (Snapshot n)).there (reads_for (length (g (Snapshot n)).bytes) + cond ((snap_of n (g (Snapshot n)).bytes).index == 0) (snapshot_reads n g) 0) (snapshot_reads n g)

-- all files of a node
abbrev pub file_reads : NodeFiles → ℕ
file_reads g = reads_of (g First) + (reads_of (g Second) + (snapshot_reads 10000000000000000 g + segment_reads 10000000000000000 g))

-- a look lists the folder and reads each file once, except for snapshots of a smaller index than one that is
-- whole
abbrev pub look_count : NodeFiles → ℕ
look_count g = suc (file_reads g)

-- ---- the same by the numbers that were listed, ascending

abbrev pub segments_count : NodeFiles → List ℕ → ℕ
segments_count g [] = 0
segments_count g (m ∷ ms) = reads_for (length (g (Segment m)).bytes) + segments_count g ms

-- the newest index, when the snapshots were looked at from the last one down, after one of this index
abbrev pub newest_from : NodeFiles → ℕ → List ℕ → ℕ
newest_from g index [] = index
newest_from g index (m ∷ ms) = max (newest_from g index ms) (snap_of m (g (Snapshot m)).bytes).index

-- a snapshot's file is read unless it is older than the newest one so far
abbrev pub snapshot_count : NodeFiles → ℕ → ℕ → ℕ
snapshot_count g newest m = cond (nat_lt m newest) 0 (reads_for (length (g (Snapshot m)).bytes))

abbrev pub snapshots_count : NodeFiles → ℕ → List ℕ → ℕ
snapshots_count g index [] = 0
snapshots_count g index (m ∷ ms) = snapshots_count g index ms + snapshot_count g (newest_from g index ms) m

abbrev pub meta_count : Bool → Found → ℕ
meta_count is_there f = cond is_there (reads_for (length f.bytes)) 0

abbrev pub list_count : FolderList → NodeFiles → ℕ
list_count l g = meta_count l.first (g First) + (meta_count l.second (g Second) + (snapshots_count g 0 l.snapshots + segments_count g l.segments))

-- ---- settling

abbrev pub one_if : Found → ℕ
one_if f = cond f.there 1 0

-- how many segments below a number are there
unfoldable pub segments_there : ℕ → NodeFiles → ℕ
segments_there zero g = 0
segments_there (suc n) g = segments_there n g + one_if (g (Segment n))

unfoldable pub snapshots_there : ℕ → NodeFiles → ℕ
snapshots_there zero g = 0
snapshots_there (suc n) g = snapshots_there n g + one_if (g (Snapshot n))

-- how many files of a node are there
abbrev pub files_there : NodeFiles → ℕ
files_there g = one_if (g First) + (one_if (g Second) + (segments_there 10000000000000000 g + snapshots_there 10000000000000000 g))

-- a last segment without its first word goes, and a torn tail is truncated: a call and a sync
abbrev pub repair_count : Option LastSegment → ℕ
repair_count None = 0
repair_count (Some x) = cond (x.good == 0) 2 (cond (x.good == x.size) 0 2)

-- by what was listed and read
abbrev pub settling_count : FolderList → FilesRead → ℕ
settling_count l r = suc (length l.files) + (repair_count r.segments.last + cond (is_stale r.snap r.segments.log) 5 0)

-- all files are synced, and the names; the last segment is repaired; and a log that the snapshot drops whole is emptied by
-- a batch in a new segment
abbrev pub settle_count : NodeFiles → ℕ
settle_count g = suc (files_there g) + (repair_count (last_in node_format (numbered 10000000000000000 g)) + cond (is_stale (snap_in node_format g) (file_log node_format 10000000000000000 g)) 5 0)

abbrev pub load_count : NodeFiles → ℕ
load_count g = look_count g + settle_count g

-- a load, of what is read where a crash may leave it
pub record LoadCounts {T E : Type 0} (before : Disk Text → Type 0) (made now : ℕ) (result : Result T E) : Type 0 where
  pub each : (d : Disk Text) → before d → IsSeen (folder d) → MakesCalls (load_count (folder d).read) made now result
