-- A snapshot is kept by an open store.
use Rattle.std.proofs.Common.{◌≡◌, inl, ℕ, suc, ◌^◌, ◌<◌, ◌≤◌, Bool, false, List, length, Result, Ok, Err, refl, sym, ap, ◌∙◌, subst, arith, length-append}
use Rattle.std.specs.Prelude.{OnOk}
use Rattle.disk_model.specs.Disk.{Disk, Found, Leaves}
use Rattle.disk_model.specs.Calls.{Call, Done, Until, MayWrite}
use Rattle.disk_model.specs.Trait.{Text, Known}
use Rattle.disk_model.specs.Spelled.{all_spelled}
use Rattle.disk_model.proofs.Spelling.{done_under, until_under}
use Rattle.disk_model.proofs.Runs.{known_map}
use Rattle.store_laws.specs.Names.{Segment, Snapshot, NodeFiles, NodeDisk, NodeCall}
use Rattle.store_laws.specs.Store.{Snap, Log, Kept, snap_in}
use Rattle.store_laws.specs.Meta.{next_stamp}
use Rattle.store_laws.specs.Chance.{NoChance}
use Rattle.store_laws.specs.Laws.{Comes}
use Rattle.store_laws.specs.Snapshots.{with_snapshot, IsNewer, keep_calls, BeforeOrLonger}
use Rattle.store_laws.proofs.AppendImages.{loaded_parts}
use Rattle.store_laws.proofs.AppendLaw.{still_of}
use Rattle.store_laws.proofs.Answers.{meta_same, settled_images}
use Rattle.store_laws.proofs.Rooms.{more_room_holds}
use Rattle.store_laws.proofs.Seen.{seen_holds, all_seen}
use Rattle.store_laws.proofs.KeepSnapshot.{keep_snapshot_holds}
use Rattle.store_format.specs.Words.{format_in}
use Rattle.store_format.specs.Snapshots.{snapshot_bytes}
use Rattle.store_format.proofs.SnapshotWritten.{snapshot_reads_back}
use Rattle.store_format.specs.Batches.{batch_bytes}
use Rattle.store_format.specs.BatchesWritten.{segment_word, Fits}
use Rattle.store_format.specs.NodeFormat.{node_format}
use Rattle.store_format.proofs.BatchesLawful.{is_lawful}
use Rattle.store_format.proofs.BatchesWritten.{batches_read_back}
use Rattle.segment_store.specs.FileNames.{file_name}
use Rattle.segment_store.specs.Open.{Open, IsOpen, HasSize}
use Rattle.segment_store.specs.Keeps.{folder, HasNew}
use Rattle.segment_store.specs.MadeCalls.{Makes}
use Rattle.segment_store.specs.Keeping.{older_than, kept_calls, with_kept, CanKeep, OldOrKept, KeepsSnapshot}
use Rattle.segment_store.proofs.Joints.{settled_none, kept_top, longer_up, until_none, under_keep}
use Rattle.segment_store.proofs.NoTwoAlike.{no_two_alike}
use Rattle.segment_store.proofs.AppendKeeps.{word_format, format_stays}
use Rattle.segment_store.proofs.KeptCalls.{kept_spelled}
use Rattle.segment_store.proofs.KeptFiles.{kept_files, below_index}
use Rattle.segment_store.proofs.Keeping.{known_went}
use Rattle.segment_store.proofs.Segments.{not_gone}

-- the kept snapshot is the one of the files
newer_than_files : (was : Open) (k : Kept) (index : ℕ) (d : Disk Text) → IsOpen was k (folder d) → k.snap.index < index → (snap_in node_format (folder d).read).index < index
newer_than_files was k index d o past =
    let room = more_room_holds node_format was.next (folder d) o.settled in
    let p = loaded_parts node_format is_lawful was.next (folder d) (still_of node_format was.next (folder d) room.0) k (room.1 ∙ o.reads) in
    subst (λ (x : Snap). x.index < index) (ap (λ (x : Kept). x.snap) p.is) past

-- no removal of a newer snapshot's file waits
pub may_write_snapshot : (was : Open) (k : Kept) (index : ℕ) (d : Disk Text) → IsOpen was k (folder d) → k.snap.index < index → MayWrite (file_name (Snapshot index)) 0 d
may_write_snapshot was k index d o past = record {
  within = omega arith;
  no_removal = λ q. not_gone _ (sym (o.settled.snap_rest index (omega (arith, newer_than_files was k index d o past))).standing ∙ q);
}

module _ (k : Kept) (s : Snap) (new : Log) (can : CanKeep k s new) (fits : Fits new) (digits : s.index < 10000000000000000) (term : s.term < 2 ^ 64) (size : length s.bytes < 2 ^ 64) (was : Open) (d : Disk Text) (o : IsOpen was k (folder d)) where
  abbrev D : NodeDisk
  D = folder d

  abbrev bytes : List ℕ
  bytes = snapshot_bytes s.index s.term s.bytes

  abbrev batch : List ℕ
  batch = batch_bytes new

  abbrev older : List ℕ
  older = older_than s.index was.snapshots

  abbrev calls : List NodeCall
  calls = keep_calls D.read was.next s.index bytes segment_word batch older

  newer : IsNewer node_format k s bytes
  newer = record {
    has_term = can.has_term;
    past = can.past;
    within = digits;
    reads = snapshot_reads_back s.index s.term s.bytes (omega (arith, can.past)) (omega (arith, digits)) term size;
  }

  spelled : kept_calls was s.index bytes batch ≡ all_spelled file_name calls
  spelled = kept_spelled was D.read s.index bytes batch o.segments (o.snapshots s.index digits)

  abbrev law : ((e : NodeDisk) → Until calls D e → (g : NodeFiles) → Leaves e g → NoChance node_format e g → BeforeOrLonger node_format (suc was.next) k s new g)
      × ((e : NodeDisk) → Done calls D e → Comes node_format (suc was.next) e (with_snapshot s new k))
  law = keep_snapshot_holds node_format is_lawful was.next D o.settled k o.reads s bytes newer new can.stays can.upto segment_word batch (batches_read_back new fits) older (below_index s.index was.snapshots)

  absent : (D.read (Segment was.next)).there ≡ false
  absent = o.settled.above was.next (omega arith)

  opened : suc was.next ≤ 10000000000000000 → (e : NodeDisk) → Done calls D e → HasNew (with_kept s.index (length batch) was) (with_snapshot s new k) e
  opened small e u =
      let c = law.1 e u in
      let w = kept_files was.next s.index bytes segment_word batch was.snapshots D e ((o.settled.segment was.next).empty absent) o.snapshots u in
      record {
        is_open = record {
          settled = c.settled;
          reads = c.read;
          stamp = ap next_stamp (meta_same node_format e.read D.read w.first w.second) ∙ o.stamp;
          first = subst (HasSize was.first) (sym w.first) o.first;
          second = subst (HasSize was.second) (sym w.second) o.second;
          grows = record {
            last = was.next;
            before = refl;
            size = (ap (λ (x : Found). x.there) w.segment, ap (λ (x : Found). length x.bytes) w.segment ∙ length-append segment_word batch);
            format = ap (λ (x : Found). format_in x.bytes) w.segment ∙ format_stays segment_word batch word_format;
          };
          segments = sym w.segments;
          snapshots = w.snapshots;
        };
        crash = λ g left. kept_top (suc was.next) e (settled_none (suc was.next) e c.settled) small g left ∙ c.crash g left;
      }

  pub kept_done : suc was.next ≤ 10000000000000000 → (e : Disk Text) → Done (kept_calls was s.index bytes batch) d e → HasNew (with_kept s.index (length batch) was) (with_snapshot s new k) (folder e)
  kept_done small e u = opened small (folder e) (done_under file_name no_two_alike calls d e (subst (λ (c : List (Call Text)). Done c d e) spelled u))

  pub kept_until : suc was.next ≤ 10000000000000000 → (e : Disk Text) → Until (kept_calls was s.index bytes batch) d e → OldOrKept k s new (folder e)
  kept_until small e u =
      let v = until_under file_name no_two_alike calls d e (subst (λ (c : List (Call Text)). Until c d e) spelled u) in
      record {
        crash = λ g left fair. longer_up k s new (suc was.next) g (kept_top (suc was.next) (folder e) (until_none (suc was.next) calls D (folder e) (under_keep D.read was.next s.index bytes segment_word batch older) (settled_none (suc was.next) D (more_room_holds node_format was.next D o.settled).0) v) small g left) (law.0 (folder e) v g left fair);
        seen = (seen_holds node_format was.next D o.settled).snapshot was.next s.index absent (omega (arith, newer_than_files was k s.index d o can.past)) bytes segment_word batch older (folder e) v;
      }

-- if nothing was called the old state is there
none_kept : (was : Open) (k : Kept) (s : Snap) (new : Log) → was.next ≤ 10000000000000000 → (d : Disk Text) → IsOpen was k (folder d) → OldOrKept k s new (folder d)
none_kept was k s new small d o = record {
  crash = λ g left fair. inl (kept_top was.next (folder d) (settled_none was.next (folder d) o.settled) small g left ∙ settled_images node_format was.next (folder d) o.settled g left ∙ o.reads);
  seen = all_seen node_format was.next (folder d) o.settled;
}

pub nothing_kept : {E : Type 0} (tells : Bool) (states : Disk Text → Type 0) (was now : Open) (k : Kept) (s : Snap) (new : Log) (fault : E) → was.next ≤ 10000000000000000 → KeepsSnapshot tells states states was now k s new (Err fault)
nothing_kept tells states was now k s new fault small known = (tt, known_map tells states (λ d. IsOpen was k (folder d)) (λ d. OldOrKept k s new (folder d)) known (λ d o. none_kept was k s new small d o))

-- the store that a call noted
as_noted : {E : Type 0} (tells : Bool) (before after : Disk Text → Type 0) (was now then : Open) (k : Kept) (s : Snap) (new : Log) (result : Result Unit E) → OnOk result (now ≡ then) → KeepsSnapshot {E = E} tells before after was then k s new result → KeepsSnapshot {E = E} tells before after was now k s new result
as_noted tells before after was now then k s new (Err x) e keeps = keeps
as_noted tells before after was now then k s new (Ok x) e keeps = λ known. let z = keeps known in (subst (λ (o : Open). Known tells after (λ d. HasNew o (with_snapshot s new k) (folder d))) (sym e) z.0, tt)

pub snapshot_kept : {E : Type 0} (tells : Bool) (before after : Disk Text → Type 0) (was now : Open) (k : Kept) (s : Snap) (new : Log) (result : Result Unit E)
    → was.next < 10000000000000000 → CanKeep k s new → Fits new → s.index < 10000000000000000 → s.term < 2 ^ 64 → length s.bytes < 2 ^ 64 → OnOk result (now ≡ with_kept s.index (length (batch_bytes new)) was)
    → Makes tells before after was k (kept_calls was s.index (snapshot_bytes s.index s.term s.bytes) (batch_bytes new)) result
    → KeepsSnapshot tells before after was now k s new result
snapshot_kept tells before after was now k s new result small can fits digits term size noted made = as_noted tells before after was now (with_kept s.index (length (batch_bytes new)) was) k s new result noted (λ known.
    known_went _ before after result tells (λ d. IsOpen was k (folder d)) (λ e. HasNew (with_kept s.index (length (batch_bytes new)) was) (with_snapshot s new k) (folder e)) (λ e. OldOrKept k s new (folder e)) known (made known)
    (λ d e o u. kept_done k s new can fits digits term size was d o (omega (arith, small)) e u) (λ d e o u. kept_until k s new can fits digits term size was d o (omega (arith, small)) e u))
