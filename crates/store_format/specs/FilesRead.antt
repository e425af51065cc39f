-- What is read of all files of a node, and what they represent by it.
use Rattle.std.specs.Prelude.{◌≡◌, ◌<◌, suc, Bool, true, cond, ◌&&◌, ◌==◌, nat_lt, Option, Some, None, is_some, Result, Ok, Err}
use Rattle.raft_messages.specs.declared.message.Snapshot.{Snapshot as SnapshotOf}
use Rattle.store_laws.specs.Store.{Meta, Snap, no_meta, no_snap, newest, Kept, Outcome, Loaded, Damaged, NoMeta, Gap, behind}
use Rattle.store_format.specs.SegmentLog.{SegmentsRead, none_read}
use Rattle.store_format.specs.declared.segment_log.Damage.{Damage as DamageOf}
use Rattle.store_format.specs.declared.fault.FilesFault.{FilesFault}
use Rattle.store_format.specs.declared.fault.FilesFault.TheVariants as fault

-- the newest metadata, the newest snapshot, and the segments
pub record FilesRead : Type 0 where
  pub meta : Meta
  pub snap : Snap
  pub segments : SegmentsRead

abbrev pub nothing_read : FilesRead
nothing_read = record { meta = no_meta; snap = no_snap; segments = none_read }

-- a snapshot by the code's value
abbrev pub snap_kept : Option SnapshotOf → Snap
snap_kept None = no_snap
snap_kept (Some s) = record { index = s.index; term = s.term; bytes = s.bytes }

-- a snapshot that is there has an index of at least 1
abbrev pub HasIndex : Option SnapshotOf → Type 0
HasIndex None = Unit {0}
HasIndex (Some s) = 0 < s.index

-- the one of the greater index
unfoldable pub newer_snap : Snap → Snap → Snap
newer_snap s old = cond (nat_lt old.index s.index) s old

abbrev pub with_meta : Meta → FilesRead → FilesRead
with_meta m r = record { meta = newest r.meta m; snap = r.snap; segments = r.segments }

abbrev pub with_snap : Snap → FilesRead → FilesRead
with_snap s r = record { meta = r.meta; snap = newer_snap s r.snap; segments = r.segments }

-- some batch or snapshot is without metadata
abbrev pub lacks : FilesRead → Bool
lacks r = (r.meta.stamp == 0) && cond r.segments.any true (nat_lt 0 r.snap.index)

-- what is kept, where nothing stands against it
abbrev pub kept_by : FilesRead → Kept
kept_by r = record { term = r.meta.term; vote = r.meta.vote; snap = r.snap; log = behind r.snap r.segments.log }

-- without metadata first, then damage, then a gap, and else what is kept
unfoldable pub judged : FilesRead → Outcome
judged r =
    cond (lacks r) NoMeta
    (cond (is_some r.segments.damage) Damaged
    (cond (nat_lt (suc r.snap.index) r.segments.log.first) (Gap r.segments.log.first r.snap.index) (Loaded (kept_by r))))

-- a fault as the outcome that it answers
abbrev pub fault_outcome : FilesFault → Outcome
fault_outcome fault.NoMeta = NoMeta
fault_outcome (fault.Damaged d) = Damaged
fault_outcome (fault.Gap first last) = Gap first last

-- and the place that it gives
abbrev pub HasPlaceOf : FilesFault → Option DamageOf → Type 0
HasPlaceOf fault.NoMeta damage = Unit {0}
HasPlaceOf (fault.Damaged d) damage = damage ≡ Some d
HasPlaceOf (fault.Gap first last) damage = Unit {0}

-- The files represent a state, or a fault says why they don't, and where.
abbrev pub Judges : FilesRead → Result Unit FilesFault → Type 0
Judges r (Ok x) = judged r ≡ Loaded (kept_by r)
Judges r (Err f) = (judged r ≡ fault_outcome f) × HasPlaceOf f r.segments.damage

-- what is read of all files of a node, whatever their order except for that of the
-- segments
abbrev pub with_segment_read : SegmentsRead → FilesRead → FilesRead
with_segment_read s r = record { meta = r.meta; snap = r.snap; segments = s }
