-- Which calls of the disk the store makes.
use Rattle.std.specs.Prelude.{ℕ, ◌+◌, ◌-◌, ◌*◌, ◌%◌, ◌==◌, Bool, cond, nat_lt, List, length, Option, Some, None, Result}
use Rattle.disk_model.specs.Disk.{Disk}
use Rattle.disk_model.specs.Calls.{Call}
use Rattle.disk_model.specs.Trait.{Text, Known}
use Rattle.store_laws.specs.Names.{Segment}
use Rattle.store_laws.specs.Store.{Kept}
use Rattle.store_laws.specs.Meta.{file_of}
use Rattle.store_format.specs.Metadata.{block_bytes}
use Rattle.store_format.specs.BatchesWritten.{segment_word}
use Rattle.segment_store.specs.FileNames.{file_name}
use Rattle.segment_store.specs.Open.{Open, IsOpen, size_for, is_listed}
use Rattle.segment_store.specs.Keeps.{folder, Went, block_calls}
use Rattle.segment_store.specs.Grow.{grow_calls, begin_calls}
use Rattle.segment_store.specs.Keeping.{older_than}

-- If the store was open over its disk all of these calls were made after Ok, in this order and no others; after an Err a
-- front of them, of which the last may have been done in any part.
abbrev pub Makes : {E : Type 0} → Bool → (Disk Text → Type 0) → (Disk Text → Type 0) → Open → Kept → List (Call Text) → Result Unit E → Type 0
Makes tells before after was k calls result = Known tells before (λ d. IsOpen was k (folder d)) → Went calls before after result

-- metadata of the next version goes to its file
abbrev pub version_calls : ℕ → Open → ℕ → ℕ → List (Call Text)
version_calls version s term vote = block_calls (file_name (file_of (version % 2 == 1))) (block_bytes (record { version = version; term = term; vote = vote })) (size_for version s)

-- a batch goes to the segment that has room, or begins a new one
abbrev pub batch_calls_in : Option ℕ → Open → List ℕ → List (Call Text)
batch_calls_in (Some size) s batch = grow_calls (file_name (Segment (s.next - 1))) size batch
batch_calls_in None s batch = begin_calls (file_name (Segment s.next)) segment_word batch

-- ---- how many they are

-- to write a block over a file of this size, or without one
abbrev pub block_count : Option ℕ → ℕ
block_count None = 3
block_count (Some size) = cond (nat_lt 40 size) 4 2

-- to write a batch to the segment that has room, or to begin one
abbrev pub batch_count : Option ℕ → ℕ
batch_count (Some size) = 2
batch_count None = 5

-- to write the file of a snapshot
abbrev pub file_count : Bool → ℕ
file_count is_there = cond is_there 4 3

-- to keep a snapshot of an index
abbrev pub kept_count : Open → ℕ → ℕ
kept_count s index = file_count (is_listed index s.snapshots) + (5 + (2 * length s.segments + length (older_than index s.snapshots)))
