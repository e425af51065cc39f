-- What is in the files after a call: which ones changed, and how.
use Rattle.std.specs.Prelude.{◌≡◌, ℕ, ◌<◌, ◌≤◌, cond, List, ◌++◌, length}
use Rattle.disk_model.specs.Disk.{found}
use Rattle.disk_model.specs.Calls.{Done}
use Rattle.store_laws.specs.Names.{Name, Segment, NodeDisk}
use Rattle.store_laws.specs.Store.{Format, Kept, Loaded, kept, meta_of}
use Rattle.store_laws.specs.Meta.{next_stamp, set_long_calls}
use Rattle.store_laws.specs.Chance.{Lawful}
use Rattle.store_laws.specs.Settled.{Settled}
use Rattle.store_laws.specs.Append.{append_calls}
use Rattle.store_laws.specs.Laws.{IsNext, meta_file, meta_calls}

-- one file has these bytes now, and the others are as they were
pub record Replaced (n : Name) (bytes : List ℕ) (d e : NodeDisk) : Type 0 where
  pub here : e.read n ≡ found bytes
  pub others : (m : Name) → (m ≡ n → ⊥) → e.read m ≡ d.read m

-- the file of the next version holds what was written, which is the newest metadata
pub record NewestWritten (f : Format) (d : NodeDisk) (term vote : ℕ) (enc : List ℕ) (e : NodeDisk) : Type 0 where
  pub newest : meta_of f e.read ≡ record { stamp = next_stamp (meta_of f d.read); term = term; vote = vote }
  pub files : Replaced (meta_file f d) enc d e

abbrev pub MetaWritten : Type 0
MetaWritten = (f : Format) → Lawful f → (top : ℕ) (d : NodeDisk) → Settled f top d
    → (k : Kept) → kept f top d.read ≡ Loaded k
    → (term vote : ℕ) (enc : List ℕ) → IsNext f d term vote enc
    → (length (d.read (meta_file f d)).bytes ≤ 40 → (e : NodeDisk) → Done (meta_calls f d enc) d e → NewestWritten f d term vote enc e)
    × (40 < length (d.read (meta_file f d)).bytes → (e : NodeDisk) → Done (set_long_calls (meta_file f d) enc) d e → NewestWritten f d term vote enc e)

-- the batch is at the end of its segment, after the format word where that is new
abbrev pub BatchWritten : Type 0
BatchWritten = (f : Format) (top : ℕ) (d : NodeDisk) → Settled f top d → (k : ℕ) (word enc : List ℕ) (e : NodeDisk)
    → Done (append_calls k (d.read (Segment k)).there (length (d.read (Segment k)).bytes) word enc) d e
    → Replaced (Segment k) (cond (d.read (Segment k)).there (d.read (Segment k)).bytes word ++ enc) d e
