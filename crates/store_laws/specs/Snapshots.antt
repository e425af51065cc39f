-- Keeping a snapshot: its file is on the disk first, then the new batch, then older segments go one by one.
use Rattle.std.specs.Prelude.{◌≡◌, ◌≢◌, ◌⊎◌, ℕ, suc, ◌+◌, ◌-◌, ◌<◌, ◌≤◌, Bool, false, cond, List, [], ◌∷◌, ◌++◌, length, drop}
use Rattle.disk_model.specs.Disk.{Leaves}
use Rattle.disk_model.specs.Calls.{CutTo, Remove, Done, Until}
use Rattle.disk_model.specs.Writing.{replace_calls}
use Rattle.store_laws.specs.Names.{Name, Snapshot, NodeFiles, NodeDisk, NodeCall}
use Rattle.store_laws.specs.Store.{snap_in, Format, Snap, Log, Kept, Loaded, kept, meta_of, segments, all_batches, log_of, empty_log, behind}
use Rattle.store_laws.specs.Chance.{Lawful, NoChance}
use Rattle.store_laws.specs.Load.{Still, tail_of, remove_from}
use Rattle.store_laws.specs.Settled.{Steady, Settled}
use Rattle.store_laws.specs.Append.{append_calls, Writes}
use Rattle.store_laws.specs.Laws.{Comes}

-- the log is this one, maybe with a longer old part
pub record Longer (l new : Log) : Type 0 where
  pub first : l.first ≤ new.first
  pub upto : new.first ≤ l.first + length l.entries
  pub entries : new.entries ≡ drop (new.first - l.first) l.entries

-- the part of the old log that stays after the new snapshot: from an index on, or nothing if the snapshot drops the old log
pub data Stays (s : Snap) (old new : Log) : Type 0 where
  part : behind s old ≡ old → Longer old new → behind s new ≡ new → Stays s old new
  nothing : behind s old ≡ record { first = suc s.index; entries = [] } → new ≡ record { first = suc s.index; entries = [] } → Stays s old new

-- What a load finds after the new snapshot: the log that is given; or the end of the kept one from an earlier index on, if the
-- snapshot's entry is in the kept one, or that begins past it. So each entry of a longer part is one that was kept.
pub data Left (s : Snap) (old new log : Log) : Type 0 where
  given : log ≡ new → Left s old new log
  earlier : behind s old ≡ old → Longer old log → Left s old new log

-- the folder's batches are `gone ++ left` and then the new batch; whatever older segments are gone already
abbrev pub SnapshotLog : Type 0
SnapshotLog = (t s : Snap) → t.index < s.index → (gone left : List Log) (new : Log)
    → Steady t (log_of empty_log (gone ++ left)) → Stays s (behind t (log_of empty_log (gone ++ left))) new
    -- before the new batch
    → Longer (behind s (log_of empty_log (gone ++ left))) new
    -- and with it, some older batches being gone
    × Longer (behind s (log_of empty_log (left ++ new ∷ []))) new
    -- each entry is one that was kept, or is given
    × Left s (behind t (log_of empty_log (gone ++ left))) new (behind s (log_of empty_log (gone ++ left)))
    × Left s (behind t (log_of empty_log (gone ++ left))) new (behind s (log_of empty_log (left ++ new ∷ [])))
    -- no entry is invented: what is left is the end of the whole log
    × Longer (log_of empty_log (gone ++ left ++ new ∷ [])) (log_of empty_log (left ++ new ∷ []))

-- the files represent the new snapshot and a log that is the new one, maybe with a longer part of the old one
pub record IsLonger (f : Format) (top : ℕ) (g : NodeFiles) (term vote : ℕ) (s : Snap) (old new : Log) : Type 0 where
  pub log : Log
  pub kept_is : kept f top g ≡ Loaded (record { term = term; vote = vote; snap = s; log = log })
  pub longer : Longer log new
  pub left : Left s old new log

-- writing a snapshot's file: an old file of its name is first cut to nothing
abbrev pub snapshot_calls : Name → Bool → List ℕ → List NodeCall
snapshot_calls n is_there enc = cond is_there (CutTo n 0 ∷ replace_calls n enc false) (replace_calls n enc false)

-- older snapshots go
abbrev pub remove_snapshots : List ℕ → List NodeCall
remove_snapshots [] = []
remove_snapshots (j ∷ js) = Remove (Snapshot j) ∷ remove_snapshots js

abbrev pub AllBelow : ℕ → List ℕ → Type 0
AllBelow n [] = Unit {0}
AllBelow n (j ∷ js) = (j < n) × AllBelow n js

-- a snapshot that may be kept, as it is written: it is newer than the kept one, and a term is kept
pub record IsNewer (f : Format) (k : Kept) (s : Snap) (enc : List ℕ) : Type 0 where
  pub has_term : k.term ≢ 0
  pub past : k.snap.index < s.index
  pub within : s.index < f.numbers
  pub reads : f.snap s.index enc ≡ s

abbrev pub with_snapshot : Snap → Log → Kept → Kept
with_snapshot s l k = record { term = k.term; vote = k.vote; snap = s; log = l }

-- the state before, or the new snapshot with the new log, maybe with a longer part of the old one
abbrev pub BeforeOrLonger : Format → ℕ → Kept → Snap → Log → NodeFiles → Type 0
BeforeOrLonger f top old s new g = (kept f top g ≡ Loaded old) ⊎ IsLonger f top g old.term old.vote s old.log new

-- the calls that keep a snapshot: its file, a new segment k with the log that stays, and then what is older goes
abbrev pub keep_calls : NodeFiles → ℕ → ℕ → List ℕ → List ℕ → List ℕ → List ℕ → List NodeCall
keep_calls r k index enc word batch older =
    snapshot_calls (Snapshot index) (r (Snapshot index)).there enc ++ (append_calls k false 0 word batch ++ (remove_from r 0 k ++ remove_snapshots older))

-- no segment has the number k or a greater one
abbrev pub KeepSnapshot : Type 0
KeepSnapshot = (f : Format) → Lawful f → (k : ℕ) (d : NodeDisk) → Settled f k d
    → (old : Kept) → kept f k d.read ≡ Loaded old
    → (s : Snap) (enc : List ℕ) → IsNewer f old s enc
    → (new : Log) → Stays s old.log new → new.first ≤ suc s.index → (word batch : List ℕ) → Writes f new word batch
    → (older : List ℕ) → AllBelow s.index older
    → ((e : NodeDisk) → Until (keep_calls d.read k s.index enc word batch older) d e → (g : NodeFiles) → Leaves e g → NoChance f e g → BeforeOrLonger f (suc k) old s new g)
    × ((e : NodeDisk) → Done (keep_calls d.read k s.index enc word batch older) d e → Comes f (suc k) e (with_snapshot s new old))

-- after the new snapshot, with the new batch alone in segment k: whichever older segments are gone
abbrev pub OlderLog : Type 0
OlderLog = (f : Format) → Lawful f → (k : ℕ) (d : NodeDisk) → Still f k d → (new : Log)
    → all_batches f (segments (suc k) d.read) ≡ all_batches f (segments k d.read) ++ new ∷ []
    → (meta_of f d.read).stamp ≢ 0
    → (t : Snap) → t.index < (snap_in f d.read).index
    → Steady t (log_of empty_log (all_batches f (segments k d.read)))
    → Stays (snap_in f d.read) (behind t (log_of empty_log (all_batches f (segments k d.read)))) new
    → new.first ≤ suc (snap_in f d.read).index
    → (m : ℕ) → m ≤ k → IsLonger f (suc k) (tail_of d.read m) (meta_of f d.read).term (meta_of f d.read).vote (snap_in f d.read) (behind t (log_of empty_log (all_batches f (segments k d.read)))) new
