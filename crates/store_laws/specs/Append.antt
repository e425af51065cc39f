-- Adding a batch.
use Rattle.std.specs.Prelude.{◌≡◌, ◌≢◌, ℕ, suc, ◌+◌, ◌-◌, ◌<◌, ◌≤◌, Bool, true, false, List, [], ◌∷◌, ◌++◌, length, take}
use Rattle.store_laws.specs.Names.{Segment, NodeCall}
use Rattle.store_laws.specs.Store.{Format, reader, Log, Snap, Kept, is_whole, behind, put_batch}
use Rattle.disk_model.specs.Disk.{Found}
use Rattle.disk_model.specs.Calls.{WriteAt, Sync}
use Rattle.disk_model.specs.Writing.{replace_calls}

abbrev pub batch_calls : ℕ → ℕ → List ℕ → List NodeCall
batch_calls k at enc = WriteAt (Segment k) at enc ∷ Sync (Segment k) ∷ []

-- a segment that isn't there yet begins with its format word, synced, and its name synced
abbrev pub append_calls : ℕ → Bool → ℕ → List ℕ → List ℕ → List NodeCall
append_calls k true at word enc = batch_calls k at enc
append_calls k false at word enc = replace_calls (Segment k) word false ++ batch_calls k (length word) enc

-- the log is replaced from the batch's first index on
abbrev pub wanted : Log → Log → Log
wanted old b = record { first = old.first; entries = take (b.first - old.first) old.entries ++ b.entries }

abbrev pub with_batch : Log → Kept → Kept
with_batch b k = record { term = k.term; vote = k.vote; snap = k.snap; log = wanted k.log b }

-- the batch lies past the snapshot and at most one past the log's end, and a term is kept
pub record CanAppend (k : Kept) (b : Log) : Type 0 where
  pub has_term : k.term ≢ 0
  pub past : k.snap.index < b.first
  pub upto : b.first ≤ k.log.first + length k.log.entries

-- how a batch and a format word are written
pub record Writes (f : Format) (b : Log) (word enc : List ℕ) : Type 0 where
  pub batch : reader f word enc ≡ record { batch = b; size = length enc }
  pub some : 0 < length enc
  pub word_size : length word ≡ 8
  pub word_whole : is_whole f word ≡ true

abbrev pub with_log : Log → Kept → Kept
with_log l k = record { term = k.term; vote = k.vote; snap = k.snap; log = l }

-- after the snapshot, the files' log with one batch more is this one
pub record Takes (s : Snap) (l b new : Log) : Type 0 where
  pub log : behind s (put_batch l b) ≡ new
  pub no_gap : (put_batch l b).first ≤ suc s.index

-- a segment that is there has the format in which the batch is written
abbrev pub SameVersion : Format → Found → List ℕ → Type 0
SameVersion f x word = x.there ≡ true → f.version x.bytes ≡ f.version word
