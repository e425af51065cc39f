-- A batch between its write and its sync.
use Rattle.std.specs.Prelude.{◌≡◌, ◌⊎◌, ℕ, ◌+◌, ◌-◌, Bool, List, length, Option, Some, None, Result, IfOk, OnOk, OnErr, MatchOption}
use Rattle.dq_base.specs.Faults.{Rose}
use Rattle.disk_model.specs.Disk.{Disk}
use Rattle.disk_model.specs.Calls.{Call, WriteAt, Does, Done, Until}
use Rattle.disk_model.specs.Trait.{Text, Known}
use Rattle.store_laws.specs.Names.{Segment}
use Rattle.store_laws.specs.Store.{Kept, Log}
use Rattle.store_laws.specs.Append.{with_batch, CanAppend}
use Rattle.store_format.specs.Batches.{batch_bytes}
use Rattle.store_format.specs.BatchesWritten.{Fits}
use Rattle.segment_store.specs.declared.unsynced.UnsyncedBatch.{UnsyncedBatch}
use Rattle.segment_store.specs.FileNames.{file_name}
use Rattle.segment_store.specs.Open.{Open, IsOpen}
use Rattle.segment_store.specs.Grow.{grown_to, room_in, with_appended}
use Rattle.segment_store.specs.Keeps.{folder, HasNew, OldOrNew}

-- a list of calls, of a function that answers a value: all were made if the answer is Ok, else a part of them
pub record WentTo {T E : Type 0} (calls : List (Call Text)) (before after : Disk Text → Type 0) (result : Result T E) : Type 0 where
  pub each : (d : Disk Text) → before d → (e : Disk Text) × (after e × (OnOk result (Done calls d e) × OnErr result (Until calls d e)))

-- after an Err the disk has counted a fault, or that it ran out of memory
abbrev pub HasFailed : {T E : Type 0} → ℕ → ℕ → ℕ → ℕ → Result T E → Type 0
HasFailed faults faults_after wants wants_after result = OnErr result (Rose faults faults_after ⊎ Rose wants wants_after)

-- The batch began a segment and is kept; or it is written to the last one, which had room and is to be that long, and the store stays.
abbrev pub HasBegun : Open → Open → List ℕ → Option UnsyncedBatch → Type 0
HasBegun old new batch None = (room_in old.size ≡ None) × (new ≡ with_appended (length batch) old)
HasBegun old new batch (Some u) =
    (new ≡ old) × (u.name ≡ file_name (Segment (old.next - 1))) × (with_appended (length batch) old ≡ grown_to u.size old)

-- The disk right after a batch was written to the last segment, which is that long with it: the store is open over the disk before.
pub record IsWritten (s : Open) (k : Kept) (b : Log) (size : ℕ) (d : Disk Text) : Type 0 where
  pub can : CanAppend k b
  pub fits : Fits b
  pub at : ℕ
  pub room : room_in s.size ≡ Some at
  pub long : size ≡ at + length (batch_bytes b)
  pub before : Disk Text
  pub is_open : IsOpen s k (folder before)
  pub written : Does (WriteAt (file_name (Segment (s.next - 1))) at (batch_bytes b)) before d

-- what the first half leaves over a disk over which the store is open
abbrev pub BeginsAppend : {E : Type 0} → Bool → (Disk Text → Type 0) → (Disk Text → Type 0) → Open → Open → Kept → Log →
    Result (Option UnsyncedBatch) E → Type 0
BeginsAppend tells before after was now k b result =
    Known tells before (λ d. IsOpen was k (folder d))
    → IfOk result (λ left. MatchOption left (Known tells after (λ d. HasNew now (with_batch b k) (folder d)))
    (λ u. Known tells after (IsWritten now k b u.size)))
    × OnErr result (Known tells after (λ d. OldOrNew k (with_batch b k) (folder d)))

-- and the second half over a disk with the batch
abbrev pub EndsAppend : {E : Type 0} → Bool → (Disk Text → Type 0) → (Disk Text → Type 0) → Open → Open → Kept → Log → ℕ → Result Unit E → Type 0
EndsAppend tells before after was now k b size result =
    Known tells before (IsWritten was k b size)
    → OnOk result (Known tells after (λ d. HasNew now (with_batch b k) (folder d)))
    × OnErr result (Known tells after (λ d. OldOrNew k (with_batch b k) (folder d)))
