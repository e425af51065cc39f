-- Keeping a snapshot: by which calls, and what they leave.
use Rattle.std.specs.Prelude.{◌≢◌, ℕ, suc, ◌+◌, ◌<◌, ◌≤◌, Bool, false, cond, nat_lt, List, [], ◌∷◌, ◌++◌, map, Some, Result, OnOk, OnErr}
use Rattle.std.specs.List.{filter}
use Rattle.raft_messages.specs.declared.message.Snapshot.{Snapshot as SnapshotValue}
use Rattle.disk_model.specs.Disk.{Disk, Leaves}
use Rattle.disk_model.specs.Calls.{Call, CutTo, Remove, SyncNames}
use Rattle.disk_model.specs.Trait.{Text, Known}
use Rattle.disk_model.specs.Writing.{replace_calls}
use Rattle.store_laws.specs.Names.{Segment, Snapshot, NodeFiles, NodeDisk}
use Rattle.store_laws.specs.Store.{Snap, Log, Kept}
use Rattle.store_laws.specs.Chance.{NoChance}
use Rattle.store_laws.specs.Snapshots.{Stays, with_snapshot, BeforeOrLonger}
use Rattle.store_format.specs.BatchesWritten.{segment_word}
use Rattle.store_format.specs.NodeFormat.{node_format}
use Rattle.segment_store.specs.FileNames.{file_name}
use Rattle.segment_store.specs.Open.{Open, IsOpen, is_listed}
use Rattle.segment_store.specs.Keeps.{folder, HasNew}
use Rattle.segment_store.specs.Grow.{begin_calls}

-- ---- the calls

-- the file of a snapshot is written; an old one of its name is first cut to nothing
abbrev pub file_calls : Text → Bool → List ℕ → List (Call Text)
file_calls n is_there bytes = cond is_there (CutTo n 0 ∷ replace_calls n bytes false) (replace_calls n bytes false)

-- files go, the names synced after each
abbrev pub removal_calls : List Text → List (Call Text)
removal_calls [] = []
removal_calls (n ∷ ns) = Remove n ∷ SyncNames ∷ removal_calls ns

-- files go, and no sync follows
abbrev pub loose_removal_calls : List Text → List (Call Text)
loose_removal_calls [] = []
loose_removal_calls (n ∷ ns) = Remove n ∷ loose_removal_calls ns

abbrev pub segment_names : List ℕ → List Text
segment_names ms = map (λ m. file_name (Segment m)) ms

abbrev pub snapshot_names : List ℕ → List Text
snapshot_names js = map (λ j. file_name (Snapshot j)) js

abbrev pub older_than : ℕ → List ℕ → List ℕ
older_than index js = filter (λ j. nat_lt j index) js

abbrev pub later_than : ℕ → List ℕ → List ℕ
later_than index js = filter (λ j. nat_lt index j) js

-- the snapshot's file, a new segment with the log that stays, and then older segments and snapshots go
abbrev pub kept_calls : Open → ℕ → List ℕ → List ℕ → List (Call Text)
kept_calls s index bytes batch =
    file_calls (file_name (Snapshot index)) (is_listed index s.snapshots) bytes
    ++ (begin_calls (file_name (Segment s.next)) segment_word batch
    ++ (removal_calls (segment_names s.segments)
    ++ loose_removal_calls (snapshot_names (older_than index s.snapshots))))

-- the store after it
abbrev pub with_kept : ℕ → ℕ → Open → Open
with_kept index count s = record {
  version = s.version;
  first = s.first;
  second = s.second;
  next = suc s.next;
  size = Some (8 + count);
  segments = s.next ∷ [];
  snapshots = index ∷ later_than index s.snapshots;
}

-- ---- what they leave

abbrev pub snap_value : SnapshotValue → Snap
snap_value s = record { index = s.index; term = s.term; bytes = s.bytes }

-- a snapshot may be kept with this log after it: a term is kept, the snapshot is newer than the kept one, and the log is
-- what stays of the kept one
pub record CanKeep (k : Kept) (s : Snap) (new : Log) : Type 0 where
  pub has_term : k.term ≢ 0
  pub past : k.snap.index < s.index
  pub some : 0 < new.first
  pub upto : new.first ≤ suc s.index
  pub stays : Stays s k.log new

-- After each crash a load answers the state before, or the new snapshot with the log, maybe with a longer part of the kept
-- one; and what is read is what a crash may leave, so that it does so without one.
pub record OldOrKept (old : Kept) (s : Snap) (new : Log) (d : NodeDisk) : Type 0 where
  pub crash : (g : NodeFiles) → Leaves d g → NoChance node_format d g → BeforeOrLonger node_format 10000000000000000 old s new g
  pub seen : Leaves d d.read

-- If the store was open over a disk with the old state, it is so over the new one after Ok; after an Err the disk has
-- the old state or the new snapshot, whatever a crash leaves.
abbrev pub KeepsSnapshot : {E : Type 0} → Bool → (Disk Text → Type 0) → (Disk Text → Type 0) → Open → Open → Kept → Snap → Log → Result Unit E → Type 0
KeepsSnapshot tells before after was now old s new result =
    Known tells before (λ d. IsOpen was old (folder d))
    → OnOk result (Known tells after (λ d. HasNew now (with_snapshot s new old) (folder d))) × OnErr result (Known tells after (λ d. OldOrKept old s new (folder d)))
