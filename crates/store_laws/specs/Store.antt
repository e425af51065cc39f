-- What the files of a node represent.
use Rattle.std.specs.Prelude.{ℕ, zero, suc, ◌+◌, ◌-◌, Bool, true, false, cond, ◌&&◌, ◌==◌, nat_le, nat_lt, List, [], ◌∷◌, ◌++◌, length, take, drop}
use Rattle.raft_spec.specs.Log.{Entry}
use Rattle.store_laws.specs.Names.{First, Second, Segment, Snapshot, NodeFiles}
use Rattle.disk_model.specs.Disk.{Found}

-- entries from an index on: a batch, and a log
pub record Log : Type 0 where
  pub first : ℕ
  pub entries : List Entry

-- a batch that bytes begin with, and its size; 0 where none reads
pub record Read : Type 0 where
  pub batch : Log
  pub size : ℕ

-- metadata; the stamp is one more than the version, and 0 without one
pub record Meta : Type 0 where
  pub stamp : ℕ
  pub term : ℕ
  pub vote : ℕ

abbrev pub no_meta : Meta
no_meta = record { stamp = 0; term = 0; vote = 0 }

-- a snapshot; index 0 without one
pub record Snap : Type 0 where
  pub index : ℕ
  pub term : ℕ
  pub bytes : List ℕ

abbrev pub no_snap : Snap
no_snap = record { index = 0; term = 0; bytes = [] }

-- how batches are taken off the front of bytes
abbrev pub Reader : Type 0
Reader = List ℕ → Read

-- How bytes are read: the version that a segment's first word says, 0 where it says none; a batch of a version; the
-- metadata of the first or the second file; the snapshot of a number. Numbers of snapshots stay below the last one.
pub record Format : Type 0 where
  pub version : List ℕ → ℕ
  pub batch : ℕ → Reader
  pub meta : Bool → List ℕ → Meta
  pub snap : ℕ → List ℕ → Snap
  pub numbers : ℕ

-- a segment's first word says a version, and its batches are read by it
abbrev pub opens : Format → List ℕ → Bool
opens f bytes = nat_lt 0 (f.version bytes)

abbrev pub reader : Format → List ℕ → Reader
reader f bytes = f.batch (f.version bytes)

-- the snapshot of the greatest number below a bound that is whole
unfoldable pub newest_snap : (ℕ → List ℕ → Snap) → ℕ → (ℕ → Found) → Snap
newest_snap snap zero files = no_snap
newest_snap snap (suc n) files = cond ((snap n (files n).bytes).index == 0) (newest_snap snap n files) (snap n (files n).bytes)

abbrev pub snap_files : NodeFiles → ℕ → Found
snap_files g k = g (Snapshot k)

abbrev pub snap_in : Format → NodeFiles → Snap
snap_in f g = newest_snap f.snap f.numbers (snap_files g)

-- the batches of the longest front of whole ones, and the bytes after them
unfoldable pub batches : Reader → ℕ → List ℕ → List Log
batches rd zero bytes = []
batches rd (suc fuel) bytes = cond ((rd bytes).size == 0) [] ((rd bytes).batch ∷ batches rd fuel (drop (rd bytes).size bytes))

unfoldable pub torn : Reader → ℕ → List ℕ → List ℕ
torn rd zero bytes = bytes
torn rd (suc fuel) bytes = cond ((rd bytes).size == 0) bytes (torn rd fuel (drop (rd bytes).size bytes))

abbrev pub is_empty : List ℕ → Bool
is_empty [] = true
is_empty (x ∷ xs) = false

unfoldable pub batches_in : Format → List ℕ → List Log
batches_in f bytes = cond (opens f bytes) (batches (reader f bytes) (length bytes) (drop 8 bytes)) []

unfoldable pub is_whole : Format → List ℕ → Bool
is_whole f bytes = opens f bytes && is_empty (torn (reader f bytes) (length bytes) (drop 8 bytes))

-- each but the last is whole
unfoldable pub sound : Format → List (List ℕ) → Bool
sound f [] = true
sound f (x ∷ []) = true
sound f (x ∷ y ∷ rest) = is_whole f x && sound f (y ∷ rest)

unfoldable pub all_batches : Format → List (List ℕ) → List Log
all_batches f [] = []
all_batches f (x ∷ xs) = batches_in f x ++ all_batches f xs

-- a batch that begins in the log or right after it replaces it from there on; another one becomes the log
unfoldable pub put_batch : Log → Log → Log
put_batch log b = cond (nat_le log.first b.first && nat_le b.first (log.first + length log.entries)) (record { first = log.first; entries = take (b.first - log.first) log.entries ++ b.entries }) b

unfoldable pub log_of : Log → List Log → Log
log_of log [] = log
log_of log (b ∷ bs) = log_of (put_batch log b) bs

abbrev pub empty_log : Log
empty_log = record { first = 1; entries = [] }

abbrev pub nth_term : List Entry → ℕ → ℕ
nth_term [] k = 0
nth_term (e ∷ es) zero = e.term
nth_term (e ∷ es) (suc k) = nth_term es k

-- the log after a snapshot
unfoldable pub behind : Snap → Log → Log
behind s log = cond (nat_lt s.index log.first) log (cond (nat_lt s.index (log.first + length log.entries) && (nth_term log.entries (s.index - log.first) == s.term)) log (record { first = suc s.index; entries = [] }))

pub record Kept : Type 0 where
  pub term : ℕ
  pub vote : ℕ
  pub snap : Snap
  pub log : Log

pub data Outcome : Type 0 where
  Loaded : Kept → Outcome
  Damaged NoMeta : Outcome
  Gap : ℕ → ℕ → Outcome

abbrev pub has_any : List Log → Bool
has_any [] = false
has_any (b ∷ bs) = true

unfoldable pub newest : Meta → Meta → Meta
newest a b = cond (nat_lt a.stamp b.stamp) b a

-- some batch or snapshot is without metadata
abbrev pub lacks_meta : Meta → Snap → List Log → Bool
lacks_meta m s bs = (m.stamp == 0) && cond (has_any bs) true (nat_lt 0 s.index)

-- what the files represent: without metadata first, then damage, then a gap, and else what is kept
unfoldable pub answer : Meta → Snap → Bool → List Log → Outcome
answer m s is_sound bs =
    cond (lacks_meta m s bs) NoMeta
    (cond is_sound (cond (nat_lt (suc s.index) (log_of empty_log bs).first) (Gap (log_of empty_log bs).first s.index) (Loaded (record { term = m.term; vote = m.vote; snap = s; log = behind s (log_of empty_log bs) }))) Damaged)

-- the segments below a number that are there, ascending
unfoldable pub segments : ℕ → NodeFiles → List (List ℕ)
segments zero g = []
segments (suc n) g = segments n g ++ cond (g (Segment n)).there ((g (Segment n)).bytes ∷ []) []

unfoldable pub meta_of : Format → NodeFiles → Meta
meta_of f g = newest (f.meta true (g First).bytes) (f.meta false (g Second).bytes)

-- what the files represent, if no segment has this number or a greater one
unfoldable pub kept : Format → ℕ → NodeFiles → Outcome
kept f top g = answer (meta_of f g) (snap_in f g) (sound f (segments top g)) (all_batches f (segments top g))
