-- A whole load: its syncs, its repairs, and if the snapshot drops the files' log whole, a batch that empties that log.
use Rattle.std.specs.Prelude.{◌≡◌, ℕ, suc, ◌+◌, ◌-◌, ◌<◌, ◌≤◌, Bool, false, cond, not, ◌&&◌, ◌==◌, nat_le, nat_lt, List, [], ◌++◌, length}
use Rattle.disk_model.specs.Disk.{Leaves}
use Rattle.disk_model.specs.Calls.{Done, Until}
use Rattle.disk_model.specs.SyncAll.{sync_all, Names}
use Rattle.store_laws.specs.Names.{Name, Segment, NodeFiles, NodeDisk, NodeCall}
use Rattle.store_laws.specs.Store.{Format, Snap, Log, Kept, Loaded, kept, snap_in, nth_term}
use Rattle.store_laws.specs.Chance.{NoChance, Lawful}
use Rattle.store_laws.specs.Settled.{file_log}
use Rattle.store_laws.specs.Append.{append_calls, Writes}
use Rattle.store_laws.specs.Load.{repair_calls, Loadable}
use Rattle.store_laws.specs.Laws.{Comes}
use Rattle.store_laws.specs.Seen.{ReadsSeen}

-- the log has an entry at the snapshot's index, of another term
abbrev pub is_stale : Snap → Log → Bool
is_stale s l = nat_le l.first s.index && (nat_lt s.index (l.first + length l.entries) && not (nth_term l.entries (s.index - l.first) == s.term))

abbrev pub empty_calls : Format → ℕ → NodeFiles → List ℕ → List ℕ → List NodeCall
empty_calls f k r word enc = cond (is_stale (snap_in f r) (file_log f (suc k) r)) (append_calls (suc k) false 0 word enc) []

abbrev pub load_calls : Format → ℕ → NodeFiles → List Name → List ℕ → List ℕ → List NodeCall
load_calls f k r ns word enc = sync_all ns ++ (repair_calls f k (r (Segment k)) ++ empty_calls f k r word enc)

-- Segment k is the last one, and batches begin at index 1 or later. At each moment a crash leaves what a load of some
-- files that a crash might have left before gives, whatever the bound on the numbers, and of them no checksum matches by
-- chance where none did of what was read; then the disk is settled with what
-- was read, which each crash leaves.
abbrev pub WholeLoad : Type 0
WholeLoad = (f : Format) → Lawful f → (k : ℕ) (d : NodeDisk) → Loadable f k d → (ns : List Name) → Names d ns
    → (new : Kept) → kept f (suc k) d.read ≡ Loaded new → 0 < (file_log f (suc k) d.read).first
    → (word enc : List ℕ) → Writes f (record { first = (file_log f (suc k) d.read).first; entries = [] }) word enc
    → ((top : ℕ) → suc (suc k) ≤ top → (e : NodeDisk) → Until (load_calls f k d.read ns word enc) d e → (g : NodeFiles) → Leaves e g → NoChance f e g → (was : NodeFiles) × (Leaves d was × ((kept f top g ≡ kept f top was) × (NoChance f d d.read → NoChance f d was))))
    × ((e : NodeDisk) → Done (load_calls f k d.read ns word enc) d e → Comes f (suc (suc k)) e new)

-- and at each moment what is read is what a crash may leave
abbrev pub WholeLoadSeen : Type 0
WholeLoadSeen = (f : Format) (k : ℕ) (d : NodeDisk) → Loadable f k d → (ns : List Name) → Names d ns → (word enc : List ℕ) → ReadsSeen (load_calls f k d.read ns word enc) d
