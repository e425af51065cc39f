-- Wrong crashes and wrong checks, which the laws of this crate refuse.
use Rattle.std.specs.Prelude.{◌≡◌, ◌≢◌, ℕ, Bool, true, false, List, [], ◌++◌, length, take, drop}
use Rattle.disk_model.specs.Disk.{found, Held}
use Rattle.disk_model.specs.Genuine.{Genuine, WasWritten}
use Rattle.disk_model.specs.Memory.{Memory, outcome}
use Rattle.disk_model.specs.Trait.{Text}
use Rattle.store_laws.specs.Store.{reader, is_whole}
use Rattle.store_format.specs.Metadata.{fits_side, block_bytes}
use Rattle.store_format.specs.NodeFormat.{node_format}
use Rattle.store_format.specs.declared.metadata.Metadata.{Metadata}
use Rattle.store_chance.specs.Chance.{torn, reads_by_chance, OneWrite, is_chance, WritesBatch}

-- A block was written over another one, and after a crash the file is empty.
abbrev pub NoEmptyFile : Type 0
NoEmptyFile = (m : Memory) (name : Text) (old new : List ℕ) (pick : ℕ) → OneWrite m name old new → outcome pick m name ≡ found [] → ⊥

-- Of a block that was written over another one a crash keeps the last half, though both halves differ.
abbrev pub NoLastHalf : Type 0
NoLastHalf =
    (m : Memory) (name : Text) (old new : List ℕ) (pick : ℕ) → OneWrite m name old new → take 20 old ≢ take 20 new → drop 20 old ≢ drop 20 new →
    outcome pick m name ≡ found (torn new old) → ⊥

-- What is found reads as metadata, was neither there nor written, and the check says no.
abbrev pub NoMissedChance : Type 0
NoMissedChance =
    (side : Bool) (h : Held) (wrote found : List ℕ) → WasWritten h.since 0 wrote → (node_format.meta side found).stamp ≢ 0 → (Genuine h 0 found → ⊥) →
    is_chance side h.bytes wrote found ≡ false → ⊥

-- The torn block of two blocks does not read as a block, and the check says yes of a crash in this write.
abbrev pub NoFalseAlarm : Type 0
NoFalseAlarm =
    (m : Memory) (name : Text) (old new : Metadata) (pick : ℕ) → OneWrite m name (block_bytes old) (block_bytes new) → reads_by_chance old new ≡ false →
    is_chance (fits_side true new.version) (block_bytes old) (block_bytes new) (outcome pick m name).bytes ≡ true → ⊥

-- A batch was written after whole batches and a crash keeps the write whole. A load reaches a batch that was neither there nor written.
abbrev pub NoStrangeBatch : Type 0
NoStrangeBatch =
    (h : Held) (a b front rest : List ℕ) → WritesBatch node_format h a b → a ++ b ≡ front ++ rest → is_whole node_format front ≡ true →
    (reader node_format (a ++ b) rest).size ≢ 0 → (Genuine h (length front) (take (reader node_format (a ++ b) rest).size rest) → ⊥) → ⊥
