-- Where a batch goes, and by which calls.
use Rattle.std.specs.Prelude.{◌≡◌, ℕ, suc, ◌+◌, cond, nat_lt, false, List, [], ◌∷◌, ◌++◌, length, Option, Some, None}
use Rattle.disk_model.specs.Disk.{Disk}
use Rattle.disk_model.specs.Calls.{Call, WriteAt, Sync}
use Rattle.disk_model.specs.Rest.{Rest}
use Rattle.disk_model.specs.Trait.{Text}
use Rattle.disk_model.specs.Writing.{replace_calls}
use Rattle.segment_store.specs.Open.{Open}

-- one write and one sync of the batch, at the end of a segment
abbrev pub grow_calls : Text → ℕ → List ℕ → List (Call Text)
grow_calls n at batch = WriteAt n at batch ∷ Sync n ∷ []

-- a new segment is there with its first word, and its name sure, before its first batch
abbrev pub begin_calls : Text → List ℕ → List ℕ → List (Call Text)
begin_calls n word batch = replace_calls n word false ++ grow_calls n (length word) batch

-- no file has this name, certainly
pub record IsFree (n : Text) (d : Disk Text) : Type 0 where
  pub not_there : (d.read n).there ≡ false
  pub rest : Rest (d.held n) (d.read n)

-- the segment that is there, if it isn't full: it has fewer than 8,388,608 bytes
abbrev pub room_in : Option ℕ → Option ℕ
room_in None = None
room_in (Some n) = cond (nat_lt n 8388608) (Some n) None

-- the store after a batch of this many bytes: in the segment that had room, or in a new one
abbrev pub appended_to : Option ℕ → ℕ → Open → Open
appended_to (Some n) count s = record { version = s.version; first = s.first; second = s.second; next = s.next; size = Some (n + count); segments = s.segments; snapshots = s.snapshots }
appended_to None count s = record { version = s.version; first = s.first; second = s.second; next = suc s.next; size = Some (8 + count); segments = s.segments ++ s.next ∷ []; snapshots = s.snapshots }

-- the store whose last segment is this long
abbrev pub grown_to : ℕ → Open → Open
grown_to size s = record {
  version = s.version;
  first = s.first;
  second = s.second;
  next = s.next;
  size = Some size;
  segments = s.segments;
  snapshots = s.snapshots;
}

abbrev pub with_appended : ℕ → Open → Open
with_appended count s = appended_to (room_in s.size) count s
