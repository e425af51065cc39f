-- When a torn block of metadata has a valid checksum by chance.
use Rattle.std.specs.Prelude.{◌≡◌, ◌⊎◌, ℕ, Bool, true, false, not, ◌&&◌, List, [], ◌∷◌, ◌++◌, length, take, drop}
use Rattle.std.specs.Str.{bytes_eq}
use Rattle.disk_model.specs.Disk.{found, Wrote, Held}
use Rattle.disk_model.specs.Genuine.{WasWritten}
use Rattle.disk_model.specs.Memory.{Memory, effects_on, outcome}
use Rattle.disk_model.specs.Trait.{Text}
use Rattle.disk_model.specs.declared.open_calls.UnsyncedEffect.TheVariants.{Write}
use Rattle.store_laws.specs.Chance.{MetaGenuine, BatchesGenuine}
use Rattle.store_laws.specs.Store.{Format, reader, is_whole}
use Rattle.store_format.specs.Metadata.{fits_side, is_block, block_bytes}
use Rattle.store_format.specs.NodeFormat.{node_format}
use Rattle.store_format.specs.Sums.{sum_bytes}
use Rattle.store_format.specs.declared.metadata.Metadata.{Metadata}

-- A crash of a disk in memory keeps half of one write at most. Of a block over a block, each of 40 bytes, this is the first 20 bytes.
abbrev pub torn : List ℕ → List ℕ → List ℕ
torn old new = take 20 new ++ drop 20 old

-- ---- two blocks

-- Half of a node's new metadata, written over the older block in the same file, reads as a block.
abbrev pub reads_by_chance : Metadata → Metadata → Bool
reads_by_chance old new = is_block (fits_side true new.version) (torn (block_bytes old) (block_bytes new))

-- This is one equation of eight bytes: the older block's sum is the sum of the torn front.
abbrev pub SumsMatch : Metadata → Metadata → Type 0
SumsMatch old new = drop 32 (torn (block_bytes old) (block_bytes new)) ≡ sum_bytes 3 (take 32 (torn (block_bytes old) (block_bytes new)))

-- ---- what a pick leaves

-- One write of a file is not synced yet: a block over a block.
pub record OneWrite (m : Memory) (name : Text) (old new : List ℕ) : Type 0 where
  pub base : m.base name ≡ found old
  pub write : effects_on name m.uncovered ≡ Write 0 new ∷ []
  pub old_size : length old ≡ 40
  pub new_size : length new ≡ 40

-- After any crash the file is the old block, the new one, or the torn one.
abbrev pub PicksLeaveThree : Type 0
PicksLeaveThree =
    (m : Memory) (name : Text) (old new : List ℕ) (pick : ℕ) → OneWrite m name old new →
    (outcome pick m name ≡ found old) ⊎ ((outcome pick m name ≡ found new) ⊎ (outcome pick m name ≡ found (torn old new)))

-- ---- a check of what a crash leaves

-- What is found of a file after a crash reads as a block, and is neither what was synced nor what was written.
abbrev pub is_chance : Bool → List ℕ → List ℕ → List ℕ → Bool
is_chance side stood wrote found = is_block side found && (not (bytes_eq found stood) && not (bytes_eq found wrote))

-- If the check says no, no metadata was found by chance.
abbrev pub ChecksSuffice : Type 0
ChecksSuffice =
    (side : Bool) (h : Held) (wrote found : List ℕ) → WasWritten h.since 0 wrote → is_chance side h.bytes wrote found ≡ false →
    MetaGenuine node_format side h found

-- The check says yes of a torn block only if the two blocks match by chance.
abbrev pub ChecksAreChance : Type 0
ChecksAreChance =
    (m : Memory) (name : Text) (old new : Metadata) (pick : ℕ) → OneWrite m name (block_bytes old) (block_bytes new) →
    is_chance (fits_side true new.version) (block_bytes old) (block_bytes new) (outcome pick m name).bytes ≡ true → reads_by_chance old new ≡ true

-- ---- a write that a crash keeps whole

-- A batch was written after whole batches, which are synced.
pub record WritesBatch (f : Format) (h : Held) (a b : List ℕ) : Type 0 where
  pub whole : is_whole f a ≡ true
  pub batch : (reader f a b).size ≡ length b
  pub bytes : h.bytes ≡ a
  pub since : h.since ≡ Wrote (length a) b ∷ []

-- If a crash keeps this write whole, no batch was found by chance. Nothing is asked of the bytes in the batches: something in them may read as a
-- batch, at a place that no load reaches.
abbrev pub WholeWritesAreFair : Type 0
WholeWritesAreFair = (h : Held) (a b : List ℕ) → WritesBatch node_format h a b → BatchesGenuine node_format h (a ++ b)
