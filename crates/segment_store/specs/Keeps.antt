-- What a call of the store leaves.
use Rattle.std.specs.Prelude.{◌≡◌, ℕ, Bool, true, false, cond, nat_lt, List, [], ◌∷◌, Option, Some, None, Result, OnOk, OnErr}
use Rattle.disk_model.specs.Disk.{Disk, Leaves}
use Rattle.disk_model.specs.Calls.{Call, WriteAt, CutTo, Sync, Done, Until}
use Rattle.disk_model.specs.Trait.{Text, Known}
use Rattle.disk_model.specs.Writing.{replace_calls}
use Rattle.disk_model.specs.Spelled.{under}
use Rattle.store_laws.specs.Names.{NodeFiles, NodeDisk}
use Rattle.store_laws.specs.Store.{Kept, Loaded, kept}
use Rattle.store_laws.specs.Chance.{NoChance}
use Rattle.store_laws.specs.Laws.{OneOf}
use Rattle.store_format.specs.NodeFormat.{node_format}
use Rattle.segment_store.specs.FileNames.{file_name}
use Rattle.segment_store.specs.Open.{Open, IsOpen}

-- a folder seen as a node's: its files under their names
abbrev pub folder : Disk Text → NodeDisk
folder d = under file_name d

-- A load answers the state before or the new one, after each crash; and what is read is what a crash may leave, so that
-- it does so without one. Numbers of segments have sixteen digits.
pub record OldOrNew (old new : Kept) (d : NodeDisk) : Type 0 where
  pub crash : (g : NodeFiles) → Leaves d g → NoChance node_format d g → OneOf node_format 10000000000000000 old new g
  pub seen : Leaves d d.read

-- the store is open over the new state, which a load answers after each crash
pub record HasNew (s : Open) (new : Kept) (d : NodeDisk) : Type 0 where
  pub is_open : IsOpen s new d
  pub crash : (g : NodeFiles) → Leaves d g → kept node_format 10000000000000000 g ≡ Loaded new

-- If the store was open over a disk with the old state, it is so over the new one after Ok; after an Err the disk has
-- the old state or the new one, whatever a crash leaves.
abbrev pub Keeps : {E : Type 0} → Bool → (Disk Text → Type 0) → (Disk Text → Type 0) → Open → Open → Kept → Kept → Result Unit E → Type 0
Keeps tells before after was now old new result =
    Known tells before (λ d. IsOpen was old (folder d))
    → OnOk result (Known tells after (λ d. HasNew now new (folder d))) × OnErr result (Known tells after (λ d. OldOrNew old new (folder d)))

-- a list of calls, of a function with its own faults: all were made where the answer is Ok, else a part of them
pub record Went {E : Type 0} (calls : List (Call Text)) (before after : Disk Text → Type 0) (result : Result Unit E) : Type 0 where
  pub each : (d : Disk Text) → before d → (e : Disk Text) × (after e × (OnOk result (Done calls d e) × OnErr result (Until calls d e)))

-- a block is written over a longer file by a write, a sync, and only then a cut
abbrev pub over_calls : Text → List ℕ → List (Call Text)
over_calls n block = WriteAt n 0 block ∷ Sync n ∷ CutTo n 40 ∷ Sync n ∷ []

-- and over one of this size, or without one
abbrev pub block_calls : Text → List ℕ → Option ℕ → List (Call Text)
block_calls n block None = replace_calls n block false
block_calls n block (Some size) = cond (nat_lt 40 size) (over_calls n block) (replace_calls n block true)
