-- What is read while a call continues is what a crash may leave: so a failed call leaves the disk to be loaded again, also
-- if no crash came.
use Rattle.std.specs.Prelude.{◌≡◌, ◌≤◌, ℕ, false, List, length}
use Rattle.disk_model.specs.Disk.{Leaves}
use Rattle.disk_model.specs.Calls.{Until}
use Rattle.store_laws.specs.Names.{Segment, NodeDisk, NodeCall}
use Rattle.store_laws.specs.Store.{Format, snap_in}
use Rattle.store_laws.specs.Settled.{Settled}
use Rattle.store_laws.specs.Append.{append_calls}
use Rattle.store_laws.specs.Meta.{set_long_calls}
use Rattle.store_laws.specs.Laws.{meta_file, meta_calls}
use Rattle.store_laws.specs.Snapshots.{keep_calls}

-- at each moment of the calls
abbrev pub ReadsSeen : List NodeCall → NodeDisk → Type 0
ReadsSeen calls d = (e : NodeDisk) → Until calls d e → Leaves e e.read

-- while metadata is written, over a file of any length; while a batch is added; and while a snapshot is kept
pub record CallsSeen (f : Format) (top : ℕ) (d : NodeDisk) : Type 0 where
  pub metadata : (enc : List ℕ) → ReadsSeen (meta_calls f d enc) d
  pub long_metadata : (enc : List ℕ) → ReadsSeen (set_long_calls (meta_file f d) enc) d
  pub batch : (k : ℕ) (word enc : List ℕ) → ReadsSeen (append_calls k (d.read (Segment k)).there (length (d.read (Segment k)).bytes) word enc) d
  pub snapshot : (k index : ℕ) → (d.read (Segment k)).there ≡ false → (snap_in f d.read).index ≤ index → (enc word batch older : List ℕ) → ReadsSeen (keep_calls d.read k index enc word batch older) d

abbrev pub Seen : Type 0
Seen = (f : Format) (top : ℕ) (d : NodeDisk) → Settled f top d → CallsSeen f top d
