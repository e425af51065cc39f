-- What keeping a snapshot writes and removes, as the code has it.
use Rattle.std.specs.Prelude.{◌≡◌, ◌<◌, ◌^◌, ℕ, List, ◌++◌, length}
use Rattle.raft_messages.specs.Entries.{HaveHeads}
use Rattle.disk_model.specs.Disk.{Disk}
use Rattle.disk_model.specs.Calls.{Call, MayWrite}
use Rattle.disk_model.specs.Trait.{Text}
use Rattle.store_laws.specs.Names.{Segment, Snapshot}
use Rattle.store_laws.specs.Store.{Snap, Log}
use Rattle.store_format.specs.Snapshots.{snapshot_bytes}
use Rattle.store_format.specs.Batches.{batch_bytes}
use Rattle.store_format.specs.BatchesWritten.{segment_word}
use Rattle.segment_store.specs.declared.keep_plan.NewSnapshot.{NewSnapshot}
use Rattle.segment_store.specs.declared.keep_plan.NewSegment.{NewSegment}
use Rattle.segment_store.specs.declared.keep_plan.OldFiles.{OldFiles}
use Rattle.segment_store.specs.declared.keep_plan.KeepPlan.{KeepPlan}
use Rattle.segment_store.specs.FileNames.{file_name}
use Rattle.segment_store.specs.Open.{Open, is_listed}
use Rattle.segment_store.specs.Grow.{begin_calls, IsFree}
use Rattle.segment_store.specs.Keeping.{file_calls, removal_calls, loose_removal_calls, segment_names, snapshot_names, older_than}

-- the bytes of a snapshot's file, which lie in three parts
abbrev pub file_bytes : NewSnapshot → List ℕ
file_bytes p = p.head.items ++ p.content.now ++ p.tail.now

abbrev pub snapshot_plan_calls : NewSnapshot → List (Call Text)
snapshot_plan_calls p = file_calls p.name p.is_there (file_bytes p)

abbrev pub segment_plan_calls : NewSegment → List (Call Text)
segment_plan_calls p = begin_calls p.name segment_word p.batch.items

abbrev pub old_calls : OldFiles → List (Call Text)
old_calls p = removal_calls p.segments.items ++ loose_removal_calls p.snapshots.items

abbrev pub plan_calls : KeepPlan → List (Call Text)
plan_calls p = snapshot_plan_calls p.snapshot ++ (segment_plan_calls p.segment ++ old_calls p.old)

-- the plan may be followed: the snapshot's file may be written, and the segment is another file, which isn't there
pub record MayKeep (p : KeepPlan) (d : Disk Text) : Type 0 where
  pub file : MayWrite p.snapshot.name 0 d
  pub free : IsFree p.segment.name d
  pub apart : p.segment.name ≡ p.snapshot.name → ⊥

-- the plan of a store for a snapshot and a log after it
pub record IsPlan (s : Open) (x : Snap) (new : Log) (p : KeepPlan) : Type 0 where
  pub number : s.next < 10000000000000000
  pub index : x.index < 10000000000000000
  pub snapshot_name : p.snapshot.name ≡ file_name (Snapshot x.index)
  pub is_there : p.snapshot.is_there ≡ is_listed x.index s.snapshots
  pub bytes : file_bytes p.snapshot ≡ snapshot_bytes x.index x.term x.bytes
  pub term : x.term < 2 ^ 64
  pub size : length x.bytes < 2 ^ 64
  pub segment_name : p.segment.name ≡ file_name (Segment s.next)
  pub batch : p.segment.batch.items ≡ batch_bytes new
  pub heads : HaveHeads new.entries
  pub count : length new.entries < 2 ^ 64
  pub segments : p.old.segments.items ≡ segment_names s.segments
  pub snapshots : p.old.snapshots.items ≡ snapshot_names (older_than x.index s.snapshots)
