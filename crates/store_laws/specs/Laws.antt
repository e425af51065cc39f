-- What a crash at any moment of a call leaves.
use Rattle.std.specs.Prelude.{◌≡◌, ◌⊎◌, ℕ, suc, ◌<◌, ◌≤◌, false, List, [], length}
use Rattle.store_laws.specs.Names.{Name, Segment, NodeFiles, NodeDisk, NodeCall}
use Rattle.disk_model.specs.Disk.{Leaves}
use Rattle.store_laws.specs.Store.{snap_in, Format, Log, meta_of, Kept, Loaded, kept, behind}
use Rattle.disk_model.specs.Calls.{Done, Until}
use Rattle.store_laws.specs.Chance.{NoChance, Lawful}
use Rattle.store_laws.specs.Settled.{Settled, file_log}
use Rattle.store_laws.specs.Load.{Still}
use Rattle.disk_model.specs.Writing.{replace_calls}
use Rattle.store_laws.specs.Meta.{set_long_calls, next_stamp, goes_first, file_of, with_vote}
use Rattle.store_laws.specs.Append.{append_calls, with_batch, CanAppend, Writes, SameVersion}

-- the files represent the one state or the other
abbrev pub OneOf : Format → ℕ → Kept → Kept → NodeFiles → Type 0
OneOf f top old new g = (kept f top g ≡ Loaded old) ⊎ (kept f top g ≡ Loaded new)

-- at each moment of the calls every crash leaves the state before or the new one
abbrev pub AnyMoment : Format → ℕ → List NodeCall → NodeDisk → Kept → Kept → Type 0
AnyMoment f top calls d old new = (e : NodeDisk) → Until calls d e → (g : NodeFiles) → Leaves e g → NoChance f e g → OneOf f top old new g

-- after the calls the disk is at rest, with the new state, which every crash leaves
pub record Comes (f : Format) (top : ℕ) (e : NodeDisk) (new : Kept) : Type 0 where
  pub settled : Settled f top e
  pub read : kept f top e.read ≡ Loaded new
  pub crash : (g : NodeFiles) → Leaves e g → kept f top g ≡ Loaded new

abbrev pub AtOk : Format → ℕ → List NodeCall → NodeDisk → Kept → Type 0
AtOk f top calls d new = (e : NodeDisk) → Done calls d e → Comes f top e new

-- the metadata that is written next
pub record IsNext (f : Format) (d : NodeDisk) (term vote : ℕ) (enc : List ℕ) : Type 0 where
  pub long : length enc ≡ 40
  pub reads : f.meta (goes_first (next_stamp (meta_of f d.read))) enc ≡ record { stamp = next_stamp (meta_of f d.read); term = term; vote = vote }

abbrev pub meta_file : Format → NodeDisk → Name
meta_file f d = file_of (goes_first (next_stamp (meta_of f d.read)))

abbrev pub meta_calls : Format → NodeDisk → List ℕ → List NodeCall
meta_calls f d enc = replace_calls (meta_file f d) enc (d.read (meta_file f d)).there

abbrev pub SetMeta : Type 0
SetMeta = (f : Format) → Lawful f → (top : ℕ) (d : NodeDisk) → Settled f top d
    → (k : Kept) → kept f top d.read ≡ Loaded k
    → (term vote : ℕ) (enc : List ℕ) → IsNext f d term vote enc
    → length (d.read (meta_file f d)).bytes ≤ 40
    → AnyMoment f top (meta_calls f d enc) d k (with_vote term vote k) × AtOk f top (meta_calls f d enc) d (with_vote term vote k)

-- segment k is the one that the batch goes to; none is above it
abbrev pub Append : Type 0
Append = (f : Format) → Lawful f → (k : ℕ) (d : NodeDisk) → Settled f (suc k) d
    → (old : Kept) → kept f (suc k) d.read ≡ Loaded old
    → (b : Log) → CanAppend old b → (word enc : List ℕ) → Writes f b word enc → SameVersion f (d.read (Segment k)) word
    → let calls = append_calls k (d.read (Segment k)).there (length (d.read (Segment k)).bytes) word enc in
    AnyMoment f (suc k) calls d old (with_batch b old) × AtOk f (suc k) calls d (with_batch b old)

-- with no segment from a number on, a greater bound says the same
abbrev pub MoreRoom : Type 0
MoreRoom = (f : Format) (top : ℕ) (d : NodeDisk) → Settled f top d → Settled f (suc top) d × (kept f (suc top) d.read ≡ kept f top d.read)

-- if the snapshot's term drops the files' log whole, a batch without entries in a new segment empties that log, and changes nothing else
abbrev pub EmptyStale : Type 0
EmptyStale = (f : Format) → Lawful f → (k : ℕ) (d : NodeDisk) → Still f k d → (d.read (Segment k)).there ≡ false
    → (old : Kept) → kept f (suc k) d.read ≡ Loaded old
    → 0 < (snap_in f d.read).index
    → (file_log f (suc k) d.read).first ≤ (snap_in f d.read).index
    → behind (snap_in f d.read) (file_log f (suc k) d.read) ≡ record { first = suc (snap_in f d.read).index; entries = [] }
    → (word enc : List ℕ) → Writes f (record { first = (file_log f (suc k) d.read).first; entries = [] }) word enc
    → let calls = append_calls k false (length (d.read (Segment k)).bytes) word enc in
    AnyMoment f (suc k) calls d old old × AtOk f (suc k) calls d old

-- over a file that is longer than a block; no checksum is trusted
abbrev pub SetMetaLong : Type 0
SetMetaLong = (f : Format) → Lawful f → (top : ℕ) (d : NodeDisk) → Settled f top d
    → (k : Kept) → kept f top d.read ≡ Loaded k
    → (term vote : ℕ) (enc : List ℕ) → IsNext f d term vote enc
    → 40 < length (d.read (meta_file f d)).bytes
    → let calls = set_long_calls (meta_file f d) enc in
    AnyMoment f top calls d k (with_vote term vote k) × AtOk f top calls d (with_vote term vote k)
