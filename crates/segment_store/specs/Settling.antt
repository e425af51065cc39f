-- How a load leaves the disk at rest, and which store is then open.
use Rattle.std.specs.Prelude.{◌≡◌, ◌⊎◌, ℕ, ◌-◌, ◌<◌, ◌==◌, cond, List, [], ◌++◌, length, take, Option, Some, None, Result, Bool, IfOk, OnOk, OnErr}
use Rattle.disk_model.specs.Disk.{Disk}
use Rattle.disk_model.specs.Calls.{Call, Done, Until}
use Rattle.disk_model.specs.SyncAll.{sync_all}
use Rattle.disk_model.specs.Trait.{Text, Known}
use Rattle.store_laws.specs.Names.{Segment, NodeCall}
use Rattle.store_laws.specs.Store.{Loaded}
use Rattle.store_format.specs.Batches.{batch_bytes}
use Rattle.store_format.specs.BatchesWritten.{segment_word}
use Rattle.store_format.specs.declared.segment_log.LastSegment.{LastSegment}
use Rattle.store_format.specs.FilesRead.{FilesRead, judged, kept_by}
use Rattle.segment_store.specs.FileNames.{file_name}
use Rattle.segment_store.specs.Grow.{begin_calls, IsFree}
use Rattle.segment_store.specs.Keeps.{folder, HasNew}
use Rattle.segment_store.specs.Listed.{FolderList, named, IsListed}
use Rattle.segment_store.specs.Loading.{IsSeen, StaysSeen}
use Rattle.segment_store.specs.Open.{Open}
use Rattle.segment_store.specs.Reads.{ReadsAll}
use Rattle.segment_store.specs.Repairs.{repairs_of}

-- all files and the names are synced, and the last segment is repaired
abbrev pub front_calls : FolderList → Option LastSegment → List NodeCall
front_calls l last = sync_all (named l.files) ++ repairs_of last

-- the batch that empties a log, in a new segment
abbrev pub emptying_calls : ℕ → ℕ → List (Call Text)
emptying_calls number first = begin_calls (file_name (Segment number)) segment_word (batch_bytes (record { first = first; entries = [] }))

-- The segments that are left after a repair: one without its first word goes.
abbrev pub left_after : Option LastSegment → List ℕ → List ℕ
left_after None xs = xs
left_after (Some x) xs = cond (x.good == 0) (take (length xs - 1) xs) xs

-- the store is open with what is kept, or what is read is what a crash may leave
pub record Settles (l : FolderList) (r : FilesRead) (first second : Option ℕ) (before after : Disk Text → Type 0) {E : Type 0} (result : Result Open E) : Type 0 where
  pub each : (d : Disk Text) → before d → IsSeen (folder d) → IsListed l (folder d) → ReadsAll (folder d) r first second → judged r ≡ Loaded (kept_by r)
      → (e : Disk Text) × (after e × (IfOk result (λ s. HasNew s (kept_by r) (folder e)) × OnErr result (StaysSeen (folder d) (folder e))))

-- A log is emptied by a batch in the segment of a number, if no file has its name; or nothing was called.
pub record Empties (tells : Bool) (number first : ℕ) (before after : Disk Text → Type 0) {T E : Type 0} (result : Result T E) : Type 0 where
  pub each : Known tells before (IsFree (file_name (Segment number))) → (d : Disk Text) → before d
      → (e : Disk Text) × (after e × (OnOk result (Done (emptying_calls number first) d e) × OnErr result (((number < 10000000000000000) × Until (emptying_calls number first) d e) ⊎ (e ≡ d))))
