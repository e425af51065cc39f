-- What an open store knows of its disk.
use Rattle.std.specs.Prelude.{◌≡◌, ℕ, zero, suc, ◌%◌, ◌<◌, ◌≤◌, ◌==◌, Bool, cond, true, false, List, [], ◌∷◌, ◌++◌, length, Option, Some, None}
use Rattle.std.specs.List.{list_any}
use Rattle.disk_model.specs.Disk.{Found}
use Rattle.store_laws.specs.Names.{First, Second, Segment, Snapshot, NodeFiles, NodeDisk}
use Rattle.store_laws.specs.Store.{Kept, Loaded, kept, meta_of}
use Rattle.store_laws.specs.Meta.{next_stamp}
use Rattle.store_laws.specs.Settled.{Settled}
use Rattle.store_laws.specs.Snapshots.{AllBelow}
use Rattle.store_format.specs.Words.{format_in}
use Rattle.store_format.specs.NodeFormat.{node_format}

-- The newest version of the metadata, 0 for none; how long each of its two files is, if it is there; the number of the
-- next new segment; how long the one before it is, where batches may still be added to it; the numbers of the segments
-- that are there, ascending; and the indices of the snapshots' files that are there, be they whole or not.
pub record Open : Type 0 where
  pub version : ℕ
  pub first : Option ℕ
  pub second : Option ℕ
  pub next : ℕ
  pub size : Option ℕ
  pub segments : List ℕ
  pub snapshots : List ℕ

-- Numbers of files have sixteen digits: those of all segments, and the next one too or it is the first that has more.
abbrev pub HaveDigits : ℕ → List ℕ → List ℕ → Type 0
HaveDigits next segments snapshots = (next ≤ 10000000000000000) × (AllBelow 10000000000000000 segments × AllBelow 10000000000000000 snapshots)

-- a file is this long, or isn't there
abbrev pub HasSize : Option ℕ → Found → Type 0
HasSize None x = x.there ≡ false
HasSize (Some n) x = (x.there ≡ true) × (length x.bytes ≡ n)

-- the segment before the next one is this long, in the format in which batches are written
pub record Grows (next n : ℕ) (d : NodeDisk) : Type 0 where
  pub last : ℕ
  pub before : next ≡ suc last
  pub size : HasSize (Some n) (d.read (Segment last))
  pub format : format_in (d.read (Segment last)).bytes ≡ 3

abbrev pub MayGrow : ℕ → Option ℕ → NodeDisk → Type 0
MayGrow next None d = Unit {0}
MayGrow next (Some n) d = Grows next n d

-- the numbers of the segments below a number that are there, ascending
unfoldable pub segment_numbers : ℕ → NodeFiles → List ℕ
segment_numbers zero g = []
segment_numbers (suc n) g = segment_numbers n g ++ cond (g (Segment n)).there (n ∷ []) []

-- the indices of the snapshots below a number whose files are there, ascending
unfoldable pub snapshot_numbers : ℕ → NodeFiles → List ℕ
snapshot_numbers zero g = []
snapshot_numbers (suc n) g = snapshot_numbers n g ++ cond (g (Snapshot n)).there (n ∷ []) []

abbrev pub is_listed : ℕ → List ℕ → Bool
is_listed j ms = list_any (λ m. m == j) ms

-- of the snapshots' files, whose indices have sixteen digits, exactly these are there
abbrev pub HasSnapshots : List ℕ → NodeFiles → Type 0
HasSnapshots ms g = (j : ℕ) → j < 10000000000000000 → (g (Snapshot j)).there ≡ is_listed j ms

-- the store is open over a disk whose files represent this
pub record IsOpen (s : Open) (k : Kept) (d : NodeDisk) : Type 0 where
  pub settled : Settled node_format s.next d
  pub reads : kept node_format s.next d.read ≡ Loaded k
  pub stamp : next_stamp (meta_of node_format d.read) ≡ suc (suc s.version)
  pub first : HasSize s.first (d.read First)
  pub second : HasSize s.second (d.read Second)
  pub grows : MayGrow s.next s.size d
  pub segments : s.segments ≡ segment_numbers s.next d.read
  pub snapshots : HasSnapshots s.snapshots d.read

-- the store after one more write of metadata: the first file has the odd versions
abbrev pub with_version : ℕ → Open → Open
with_version version s = record {
  version = version;
  first = cond (version % 2 == 1) (Some 40) s.first;
  second = cond (version % 2 == 1) s.second (Some 40);
  next = s.next;
  size = s.size;
  segments = s.segments;
  snapshots = s.snapshots;
}

-- how long the file is that a version goes to
abbrev pub size_for : ℕ → Open → Option ℕ
size_for version s = cond (version % 2 == 1) s.first s.second
