-- What a load does to the disk: it syncs what it read, then repairs the last segment.
use Rattle.std.specs.Prelude.{◌≡◌, ℕ, zero, suc, ◌-◌, ◌<◌, ◌≤◌, nat_lt, true, false, cond, List, [], ◌∷◌, ◌++◌, length, drop}
use Rattle.store_laws.specs.Names.{Name, First, Second, Segment, Snapshot, NodeFiles, NodeDisk, NodeCall}
use Rattle.disk_model.specs.Disk.{Found, missing, LeavesFile, Leaves}
use Rattle.store_laws.specs.Store.{Format, kept, is_whole, torn, opens, reader, snap_in}
use Rattle.disk_model.specs.Calls.{CutTo, Sync, Remove, SyncNames, Done, Until}
use Rattle.disk_model.specs.Rest.{Rest}
use Rattle.disk_model.specs.SyncAll.{sync_all, Names}
use Rattle.store_laws.specs.Chance.{NoChance, Lawful}
use Rattle.store_laws.specs.Settled.{file_log}

-- a disk at rest, its last segment k maybe torn
pub record Still (f : Format) (k : ℕ) (d : NodeDisk) : Type 0 where
  pub first : Rest (d.held First) (d.read First)
  pub second : Rest (d.held Second) (d.read Second)
  pub segment : (j : ℕ) → Rest (d.held (Segment j)) (d.read (Segment j))
  pub above : (j : ℕ) → k < j → (d.read (Segment j)).there ≡ false
  pub below : (j : ℕ) → j < k → (d.read (Segment j)).there ≡ true → is_whole f (d.read (Segment j)).bytes ≡ true
  pub snap_read : (j : ℕ) → LeavesFile (d.held (Snapshot j)) (d.read (Snapshot j))
  pub snap : (g : NodeFiles) → ((j : ℕ) → LeavesFile (d.held (Snapshot j)) (g (Snapshot j))) → snap_in f g ≡ snap_in f d.read
  pub snap_rest : (j : ℕ) → (snap_in f d.read).index ≤ j → Rest (d.held (Snapshot j)) (d.read (Snapshot j))

-- the files represent the same at each moment of the calls, and at their end the segment is whole or gone
pub record Repairs (f : Format) (k : ℕ) (d : NodeDisk) (calls : List NodeCall) : Type 0 where
  pub any_moment : (e : NodeDisk) → Until calls d e → (g : NodeFiles) → Leaves e g → NoChance f e g → kept f (suc k) g ≡ kept f (suc k) d.read
  pub still : (e : NodeDisk) → Done calls d e → Still f k e
  pub whole : (e : NodeDisk) → Done calls d e → (e.read (Segment k)).there ≡ true → is_whole f (e.read (Segment k)).bytes ≡ true
  pub same : (e : NodeDisk) → Done calls d e → kept f (suc k) e.read ≡ kept f (suc k) d.read
  pub log : (e : NodeDisk) → Done calls d e → file_log f (suc k) e.read ≡ file_log f (suc k) d.read
  pub snap : (e : NodeDisk) → Done calls d e → snap_in f e.read ≡ snap_in f d.read

-- whole batches H, and after them a tail that doesn't read
abbrev pub CutTail : Type 0
CutTail = (f : Format) → Lawful f → (k : ℕ) (d : NodeDisk) → Still f k d
    → (H tail : List ℕ) → d.read (Segment k) ≡ record { there = true; bytes = H ++ tail } → is_whole f H ≡ true → (reader f H tail).size ≡ 0
    → Repairs f k d (CutTo (Segment k) (length H) ∷ Sync (Segment k) ∷ [])

-- a last segment without its format word
abbrev pub RemoveBad : Type 0
RemoveBad = (f : Format) → Lawful f → (k : ℕ) (d : NodeDisk) → Still f k d
    → (d.read (Segment k)).there ≡ true → opens f (d.read (Segment k)).bytes ≡ false
    → Repairs f k d (Remove (Segment k) ∷ SyncNames ∷ [])

-- what a load does to the last segment: nothing if it is whole or not there; a torn tail is truncated; one without its first word goes
unfoldable pub repair_calls : Format → ℕ → Found → List NodeCall
repair_calls f k x =
    cond x.there (cond (opens f x.bytes) (cond (is_whole f x.bytes) [] (CutTo (Segment k) (length x.bytes - length (torn (reader f x.bytes) (length x.bytes) (drop 8 x.bytes))) ∷ Sync (Segment k) ∷ [])) (Remove (Segment k) ∷ SyncNames ∷ [])) []

-- what a load needs to find: the reads are what a crash may leave, and each segment but the last is whole
pub record Loadable (f : Format) (k : ℕ) (d : NodeDisk) : Type 0 where
  pub seen : Leaves d d.read
  pub above : (j : ℕ) → k < j → (d.read (Segment j)).there ≡ false
  pub below : (j : ℕ) → j < k → (d.read (Segment j)).there ≡ true → is_whole f (d.read (Segment j)).bytes ≡ true

-- after a load: at rest, the last segment whole, and each crash leaves what was read
pub record LoadEnds (f : Format) (k : ℕ) (d e : NodeDisk) : Type 0 where
  pub still : Still f k e
  pub whole : (e.read (Segment k)).there ≡ true → is_whole f (e.read (Segment k)).bytes ≡ true
  pub read : kept f (suc k) e.read ≡ kept f (suc k) d.read
  pub crash : (g : NodeFiles) → Leaves e g → kept f (suc k) g ≡ kept f (suc k) d.read
  pub log : file_log f (suc k) e.read ≡ file_log f (suc k) d.read
  pub snap : snap_in f e.read ≡ snap_in f d.read

-- inside a load a crash leaves what a load of some files that a crash might have left before gives, of which no checksum
-- matches by chance where none did of what was read
abbrev pub Load : Type 0
Load = (f : Format) → Lawful f → (k : ℕ) (d : NodeDisk) → Loadable f k d → (ns : List Name) → Names d ns
    → ((e : NodeDisk) → Until (sync_all ns ++ repair_calls f k (d.read (Segment k))) d e → (g : NodeFiles) → Leaves e g → NoChance f e g → (was : NodeFiles) × (Leaves d was × ((kept f (suc k) g ≡ kept f (suc k) was) × (NoChance f d d.read → NoChance f d was))))
    × ((e : NodeDisk) → Done (sync_all ns ++ repair_calls f k (d.read (Segment k))) d e → LoadEnds f k d e)

-- the files without the segments below a number
abbrev pub tail_of : NodeFiles → ℕ → NodeFiles
tail_of r m First = r First
tail_of r m Second = r Second
tail_of r m (Segment j) = cond (nat_lt j m) missing (r (Segment j))
tail_of r m (Snapshot j) = r (Snapshot j)

-- older segments go ascending by number, the names synced after each
abbrev pub remove_from : NodeFiles → ℕ → ℕ → List NodeCall
remove_from r a zero = []
remove_from r a (suc n) = cond (r (Segment a)).there (Remove (Segment a) ∷ SyncNames ∷ remove_from r (suc a) n) (remove_from r (suc a) n)

-- at each moment a crash leaves what the files without some of the oldest segments represent; then all of them are gone
abbrev pub RemoveOlder : Type 0
RemoveOlder = (f : Format) (k : ℕ) (d : NodeDisk) → Still f k d
    → ((e : NodeDisk) → Until (remove_from d.read 0 k) d e → (g : NodeFiles) → Leaves e g → (m : ℕ) × ((m ≤ k) × (kept f (suc k) g ≡ kept f (suc k) (tail_of d.read m))))
    × ((e : NodeDisk) → Done (remove_from d.read 0 k) d e → Still f k e × ((n : Name) → e.read n ≡ tail_of d.read k n))
