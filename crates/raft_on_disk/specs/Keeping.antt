-- What a node keeps, as its disk has it, and what keeping it leaves.
use Rattle.std.specs.Prelude.{◌≡◌, ℕ, suc, ◌+◌, ◌-◌, Bool, List, drop, Option, Some, None, Result, OnOk, OnErr}
use Rattle.raft_spec.specs.Log.{Entry}
use Rattle.raft_spec.specs.Node.{Node}
use Rattle.raft_messages.specs.declared.message.Snapshot.{Snapshot}
use Rattle.disk_model.specs.Disk.{Disk}
use Rattle.disk_model.specs.Trait.{Text, Known}
use Rattle.store_laws.specs.Store.{Snap, Log, Kept}
use Rattle.store_laws.specs.Append.{CanAppend, with_batch}
use Rattle.store_laws.specs.Meta.{with_vote}
use Rattle.store_laws.specs.Snapshots.{with_snapshot}
use Rattle.segment_store.specs.Faults.{StaysUnlessFailed}
use Rattle.segment_store.specs.Open.{Open}
use Rattle.segment_store.specs.Keeps.{folder, HasNew, OldOrNew}
use Rattle.segment_store.specs.Keeping.{CanKeep, OldOrKept, snap_value}

-- ---- what is kept

-- what a node keeps, with the bytes of its snapshot: the log from its cut on
abbrev pub kept_at : Node → List ℕ → Kept
kept_at s bytes = record {
  term = s.term;
  vote = s.vote;
  snap = record { index = s.snapshot.index; term = s.snapshot.term; bytes = bytes };
  log = record { first = suc s.base; entries = drop s.base s.log };
}

-- the batch that makes a log from an index on
abbrev pub batch_from : ℕ → List Entry → Log
batch_from first log = record { first = first; entries = drop (first - 1) log }

-- what stays of a log after a place
abbrev pub log_from : ℕ → List Entry → Log
log_from base log = record { first = suc base; entries = drop base log }

-- with term and vote, if one of them is new
abbrev pub voted : Option (ℕ × ℕ) → Kept → Kept
voted None k = k
voted (Some meta) k = with_vote meta.0 meta.1 k

-- ---- what keeping it leaves

-- the store is open over a disk that keeps this, whatever a crash leaves
abbrev pub Has : Bool → (Disk Text → Type 0) → Open → Kept → Type 0
Has tells states store k = Known tells states (λ d. HasNew store k (folder d))

-- From a disk that keeps the old state, it keeps the new one after Ok; after an Err a load answers the old or the new one, after each crash and without one.
abbrev pub Stores : {E : Type 0} → Bool → (Disk Text → Type 0) → (Disk Text → Type 0) → Open → Open → Kept → Kept → Result Unit E → Type 0
Stores tells before after was now old new result = Has tells before was old → OnOk result (Has tells after now new) × OnErr result (Known tells after (λ d. OldOrNew old new (folder d)))

-- the same for a snapshot, if the new state may have a longer old part of the log after an Err
abbrev pub StoresSnapshot : {E : Type 0} → Bool → (Disk Text → Type 0) → (Disk Text → Type 0) → Open → Open → Kept → Snap → Log → Result Unit E → Type 0
StoresSnapshot tells before after was now old s new result = Has tells before was old → OnOk result (Has tells after now (with_snapshot s new old)) × OnErr result (Known tells after (λ d. OldOrKept old s new (folder d)))

-- What a step writes of the log is kept: a snapshot that came, with what stays of the log after it, or a batch, or nothing.
abbrev pub KeepsLog : {E : Type 0} → Bool → (Disk Text → Type 0) → (Disk Text → Type 0) → Open → Open → Kept → List Entry → Option Snapshot → Option ℕ → Result Unit E → Type 0
KeepsLog tells before after was now k log None None result = Stores tells before after was now k k result
KeepsLog tells before after was now k log None (Some first) result = CanAppend k (batch_from first log) → Stores tells before after was now k (with_batch (batch_from first log) k) result
KeepsLog tells before after was now k log (Some s) batch result = CanKeep k (snap_value s) (log_from s.index log) → StoresSnapshot tells before after was now k (snap_value s) (log_from s.index log) result

-- the snapshot that is kept then
abbrev pub kept_snapshot : Snapshot → Option Snapshot → Snapshot
kept_snapshot s None = s
kept_snapshot s (Some came) = came

-- ---- how many times

-- 1 where something is to be kept
abbrev pub one_of : {T : Type 0} → Option T → ℕ
one_of None = 0
one_of (Some x) = 1

-- of the log a snapshot or a batch
abbrev pub writes_of : Option Snapshot → Option ℕ → ℕ
writes_of None batch = one_of batch
writes_of (Some s) batch = 1

-- the count went up by this number after Ok, and stayed after an Err
abbrev pub Counts : {T E : Type 0} → ℕ → ℕ → ℕ → Result T E → Type 0
Counts more before now result = OnOk result (now ≡ before + more) × OnErr result (now ≡ before)

-- ---- where nothing was kept

-- If the count of keeps is the one that it was, the disk is as it was after Ok; after an Err it has failed, or has wanted memory, or is as it was. Its
-- faults are counted before and after, and its wants.
abbrev pub StaysUnlessKept : {D T E : Type 0} → ℕ → ℕ → D → D → ℕ → ℕ → ℕ → ℕ → Result T E → Type 0
StaysUnlessKept count now_count was now faults faults_after wants wants_after result =
    now_count ≡ count → OnOk result (now ≡ was) × StaysUnlessFailed was now faults faults_after wants wants_after result
