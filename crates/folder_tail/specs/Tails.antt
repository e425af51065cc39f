-- What follows the whole batches of the last segment of a folder.
use Rattle.std.specs.Prelude.{◌≡◌, ◌⊎◌, ℕ, zero, suc, ◌+◌, ◌≤◌, ◌<◌, true, false, List, length, Option, Some, None, Result, IfOk}
use Rattle.disk_model.specs.Disk.{Disk}
use Rattle.disk_model.specs.Trait.{Text}
use Rattle.store_laws.specs.Names.{Segment, NodeFiles}
use Rattle.store_laws.specs.Store.{Kept, Loaded}
use Rattle.store_format.specs.Words.{word_from, format_in}
use Rattle.store_format.specs.NodeFormat.{node_format}
use Rattle.store_format.specs.SegmentLog.{last_of, reads_whole}
use Rattle.store_format.specs.declared.segment_log.LastSegment.{LastSegment}
use Rattle.segment_store.specs.Keeps.{folder}
use Rattle.segment_store.specs.Loading.{kept_in, IsPlain}
use Rattle.segment_store.specs.Reads.{at}
use Rattle.folder_tail.specs.declared.tail.Tail.{Tail}
use Rattle.folder_tail.specs.declared.tail.Tail.TheVariants as tails
use Rattle.folder_tail.specs.declared.folder.SegmentBytes.{SegmentBytes}
use Rattle.folder_tail.specs.Last.{IsLast, IsLastRead}
use Rattle.folder_tail.specs.Search.{is_misread, Later}

-- the index after the last entry that is kept
abbrev pub next_in : Kept → ℕ
next_in k = k.log.first + length k.log.entries

-- the index after the last entry that the files represent
abbrev pub IsNext : ℕ → NodeFiles → Type 0
IsNext next g = (k : Kept) × ((kept_in g ≡ Loaded k) × (next ≡ next_in k))

-- a call that only reads: the disk stays as it is, and an Ok answer shows this of it, if a file that isn't there reads as an empty one
pub record Views {T E : Type 0} (before after : Disk Text → Type 0) (result : Result T E) (Shows : Disk Text → T → Type 0) : Type 0 where
  pub each : (d : Disk Text) → before d → IsPlain (folder d) → after d × IfOk result (Shows d)

-- what is found after the whole batches of a segment, by how far it reads: of one whose first word says no format that word is all that was
-- written, and after the whole batches of any other no batch continues the log
abbrev pub IsTorn : ℕ → ℕ → List ℕ → Type 0
IsTorn next zero bytes = length bytes ≤ 8
IsTorn next (suc n) bytes = (is_misread next (suc n) bytes ≡ false) × Later (format_in bytes) next (suc n) bytes None

-- a whole batch is at a later place; or at the place itself, in another format than the segment's first word says
abbrev pub IsDamaged : ℕ → ℕ → List ℕ → ℕ → Type 0
IsDamaged next good bytes place = ((is_misread next good bytes ≡ true) × (place ≡ good)) ⊎ Later (format_in bytes) next good bytes (Some place)

-- what the bytes of a segment end with that doesn't read to its end, if this is the index after the last entry
abbrev pub OfBytes : Tail → LastSegment → ℕ → List ℕ → Type 0
OfBytes tails.Whole last next bytes = ⊥
OfBytes (tails.Torn seen) last next bytes = (seen ≡ last) × IsTorn next last.good bytes
OfBytes (tails.Damaged seen place) last next bytes = (seen ≡ last) × ((0 < last.good) × IsDamaged next last.good bytes place)
OfBytes (tails.Unknown number format) last next bytes = (number ≡ last.number) × ((last.good ≡ 0) × ((8 < length bytes) × (format ≡ word_from 0 bytes)))

-- the last segment, of this number, ends so
pub record IsTailOf (tail : Tail) (n : ℕ) (g : NodeFiles) : Type 0 where
  pub is_last : IsLast n g
  pub next : ℕ
  pub is_next : IsNext next g
  pub bytes : OfBytes tail (last_of node_format (at g n)) next (at g n).bytes

-- what a look says of the files: the last segment, if there is one, reads to its end, or ends so
abbrev pub TailShows : Tail → NodeFiles → Type 0
TailShows tails.Whole g = (n : ℕ) → n < 10000000000000000 → IsLast n g → reads_whole (last_of node_format (at g n)) ≡ true
TailShows (tails.Torn last) g = IsTailOf (tails.Torn last) last.number g
TailShows (tails.Damaged last place) g = IsTailOf (tails.Damaged last place) last.number g
TailShows (tails.Unknown number format) g = IsTailOf (tails.Unknown number format) number g

-- the same if the last segment is this one, with these bytes
abbrev pub OfSegment : ℕ → List ℕ → Disk Text → Tail → Type 0
OfSegment n bytes d tail = IsLast n (folder d).read → bytes ≡ ((folder d).read (Segment n)).bytes → TailShows tail (folder d).read

-- the same if this was read of the last segment, or no segment exists
abbrev pub OfFound : Option SegmentBytes → Disk Text → Tail → Type 0
OfFound found d tail = IsLastRead found (folder d).read → TailShows tail (folder d).read
