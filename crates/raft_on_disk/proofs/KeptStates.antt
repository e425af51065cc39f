-- What the calls of the store leave, said of disks that keep a state over every crash.
use Rattle.std.proofs.Common.{Bool, inl, Ok, Err}
use Rattle.disk_model.specs.Disk.{Disk, Leaves}
use Rattle.disk_model.specs.Trait.{Text, Known}
use Rattle.disk_model.proofs.Runs.{known_map}
use Rattle.store_laws.specs.Names.{NodeDisk}
use Rattle.store_laws.specs.Store.{Snap, Log, Kept}
use Rattle.store_laws.proofs.Seen.{all_seen}
use Rattle.store_format.specs.NodeFormat.{node_format}
use Rattle.segment_store.specs.declared.fault.StoreFault.{StoreFault}
use Rattle.segment_store.specs.Open.{Open, IsOpen}
use Rattle.segment_store.specs.Keeps.{folder, HasNew, OldOrNew, Keeps}
use Rattle.segment_store.specs.Keeping.{OldOrKept, KeepsSnapshot}
use Rattle.raft_on_disk.specs.Keeping.{Has, Stores, StoresSnapshot}

pub seen : (store : Open) (k : Kept) (d : NodeDisk) → HasNew store k d → Leaves d d.read
seen store k d h = all_seen node_format store.next d h.is_open.settled

old_or_new : (store : Open) (k new : Kept) (d : NodeDisk) → HasNew store k d → OldOrNew k new d
old_or_new store k new d h = record { crash = λ g left fair. inl (h.crash g left); seen = seen store k d h }

old_or_kept : (store : Open) (k : Kept) (s : Snap) (l : Log) (d : NodeDisk) → HasNew store k d → OldOrKept k s l d
old_or_kept store k s l d h = record { crash = λ g left fair. inl (h.crash g left); seen = seen store k d h }

opened : (tells : Bool) (states : Disk Text → Type 0) (store : Open) (k : Kept) → Has tells states store k → Known tells states (λ d. IsOpen store k (folder d))
opened tells states store k has = known_map tells states (λ d. HasNew store k (folder d)) (λ d. IsOpen store k (folder d)) has (λ d h. h.is_open)

-- ---- a term and a vote, or a batch

-- nothing was called
pub stores_none : {E : Type 0} (tells : Bool) (states : Disk Text → Type 0) (was now : Open) (k new : Kept) (y : E) → Stores tells states states was now k new (Err y)
stores_none tells states was now k new y has = (tt, known_map tells states (λ d. HasNew was k (folder d)) (λ d. OldOrNew k new (folder d)) has (λ d h. old_or_new was k new (folder d) h))

-- nothing was to be kept
pub stores_same : (tells : Bool) (states : Disk Text → Type 0) (was : Open) (k : Kept) → Has tells states was k → Has tells states was k × Unit {0}
stores_same tells states was k has = (has, tt)

pub stores_err : {E F : Type 0} (tells : Bool) (before after : Disk Text → Type 0) (was now then : Open) (k new : Kept) (x : E) (y : F) → Keeps tells before after was now k new (Err x) → Stores tells before after was then k new (Err y)
stores_err tells before after was now then k new x y keeps has = (tt, (keeps (opened tells before was k has)).1)

pub stores_ok : (tells : Bool) (before after : Disk Text → Type 0) (was now : Open) (k new : Kept) (x y : Unit {0}) → Keeps {E = StoreFault} tells before after was now k new (Ok x) → Stores {E = StoreFault} tells before after was now k new (Ok y)
stores_ok tells before after was now k new x y keeps has = ((keeps (opened tells before was k has)).0, tt)

-- ---- a snapshot

pub snapshot_none : {E : Type 0} (tells : Bool) (states : Disk Text → Type 0) (was now : Open) (k : Kept) (s : Snap) (l : Log) (y : E) → StoresSnapshot tells states states was now k s l (Err y)
snapshot_none tells states was now k s l y has = (tt, known_map tells states (λ d. HasNew was k (folder d)) (λ d. OldOrKept k s l (folder d)) has (λ d h. old_or_kept was k s l (folder d) h))

pub snapshot_err : {E F : Type 0} (tells : Bool) (before after : Disk Text → Type 0) (was now then : Open) (k : Kept) (s : Snap) (l : Log) (x : E) (y : F) → KeepsSnapshot tells before after was now k s l (Err x) → StoresSnapshot tells before after was then k s l (Err y)
snapshot_err tells before after was now then k s l x y keeps has = (tt, (keeps (opened tells before was k has)).1)

pub snapshot_ok : (tells : Bool) (before after : Disk Text → Type 0) (was now : Open) (k : Kept) (s : Snap) (l : Log) (x y : Unit {0}) → KeepsSnapshot {E = StoreFault} tells before after was now k s l (Ok x) → StoresSnapshot {E = StoreFault} tells before after was now k s l (Ok y)
snapshot_ok tells before after was now k s l x y keeps has = ((keeps (opened tells before was k has)).0, tt)
