-- The loops of a load: its syncs, and the files that it reads.
use Rattle.std.proofs.Common.{◌≡◌, ℕ, ◌+◌, ◌<◌, ◌≤◌, List, [], ◌∷◌, ◌++◌, length, take, drop, get_or, Option, Result, Ok, Err, refl, sym, ap, ◌∙◌, subst, append_assoc}
use Rattle.std.specs.Prelude.{map}
use Rattle.std.specs.Global.{Vec}
use Rattle.std.proofs.lemmas.List.{take_more, take_all, take-append-drop}
use Rattle.disk_model.specs.Disk.{Disk}
use Rattle.disk_model.specs.Calls.{Call, Sync, SyncNames}
use Rattle.disk_model.specs.Spelled.{all_spelled}
use Rattle.disk_model.specs.SyncAll.{sync_all}
use Rattle.disk_model.specs.Trait.{Text, Steps}
use Rattle.disk_model.specs.declared.faults.DiskFault.{DiskFault}
use Rattle.store_laws.specs.Names.{Segment}
use Rattle.store_laws.specs.Damage.{Numbered}
use Rattle.store_format.specs.NodeFormat.{node_format}
use Rattle.store_format.specs.SegmentLog.{SegmentsRead, with_segment, all_read}
use Rattle.store_format.specs.FilesRead.{FilesRead, with_snap, with_segment_read}
use Rattle.segment_store.specs.declared.names.File.{File}
use Rattle.segment_store.specs.declared.fault.StoreFault.{StoreFault}
use Rattle.segment_store.specs.FileNames.{file_name, name_of}
use Rattle.segment_store.specs.Keeps.{folder, Went}
use Rattle.segment_store.specs.Listed.{FolderList, named, Below}
use Rattle.segment_store.specs.Repairs.{repairs_of}
use Rattle.segment_store.specs.Settling.{front_calls}
use Rattle.store_format.specs.declared.segment_log.LastSegment.{LastSegment}
use Rattle.segment_store.specs.Loading.{Sees}
use Rattle.segment_store.specs.Reads.{snap_at, at, IsNewest, ReadsSnaps, ReadsSegments}
use Rattle.segment_store.proofs.LoadCalls.{syncs, syncs_push, sync_all_is, went_done, went_both, went_front, went_last, went_stops, spelled_both}
use Rattle.segment_store.proofs.LoadLists.{below_at}
use Rattle.segment_store.proofs.LoadNames.{drop_head}
use Rattle.segment_store.proofs.LoadSnaps.{newest_none, newest_more}

-- ---- syncs

-- these files were synced
pub record Synced (fs : List File) (before after : Disk Text → Type 0) : Type 0 where
  pub went : Went {E = StoreFault} (syncs fs) before after (Ok tt)

pub synced_none : (states : Disk Text → Type 0) → Synced [] states states
synced_none states = record { went = went_done states tt }

pub synced_more : (fs : List File) (i : ℕ) (d : File) (x : Unit {0}) (before mid after : Disk Text → Type 0) → i < length fs → Synced (take i fs) before mid → Went {E = StoreFault} (Sync (file_name (name_of (get_or fs i d))) ∷ []) mid after (Ok x) → Synced (take (i + 1) fs) before after
synced_more fs i d x before mid after h s went = record {
  went =
      subst (λ (l : List File). Went {E = StoreFault} (syncs l) before after (Ok tt)) (sym (take_more fs i d h))
      (subst (λ (cs : List (Call Text)). Went {E = StoreFault} cs before after (Ok tt)) (sym (syncs_push (take i fs) (get_or fs i d))) (went_both (syncs (take i fs)) (Sync (file_name (name_of (get_or fs i d))) ∷ []) before mid after tt (Ok x) s.went went));
}

-- a file isn't synced
pub sync_fails : (fs : List File) (i : ℕ) (d : File) (x y : StoreFault) (before mid after : Disk Text → Type 0) → i < length fs → Synced (take i fs) before mid → Went {E = StoreFault} (Sync (file_name (name_of (get_or fs i d))) ∷ []) mid after (Err x) → Went (all_spelled file_name (sync_all (named fs))) before after (Err y)
sync_fails fs i d x y before mid after h s went =
    let rest = drop (i + 1) fs in
    let split : fs ≡ (take i fs ++ get_or fs i d ∷ []) ++ rest = sym (take-append-drop (i + 1) fs) ∙ ap (λ (l : List File). l ++ rest) (take_more fs i d h) in
    let part = went_both (syncs (take i fs)) (Sync (file_name (name_of (get_or fs i d))) ∷ []) before mid after tt (Err x) s.went went in
    let front = subst (λ (cs : List (Call Text)). Went {E = StoreFault} cs before after (Err x)) (sym (syncs_push (take i fs) (get_or fs i d))) part in
    subst (λ (cs : List (Call Text)). Went cs before after (Err y)) (sym (ap (λ (l : List File). all_spelled file_name (sync_all (named l))) split ∙ sync_all_is ((take i fs ++ get_or fs i d ∷ []) ++ rest) ∙ ap (λ (cs : List (Call Text)). cs ++ SyncNames ∷ []) (syncs_both (take i fs ++ get_or fs i d ∷ []) rest) ∙ append_assoc (syncs (take i fs ++ get_or fs i d ∷ [])) (syncs rest) (SyncNames ∷ [])))
    (went_front (syncs (take i fs ++ get_or fs i d ∷ [])) (syncs rest ++ SyncNames ∷ []) before after x y front)
  where
    syncs_both : (gs hs : List File) → syncs (gs ++ hs) ≡ syncs gs ++ syncs hs
    syncs_both [] hs = refl
    syncs_both (g ∷ gs) hs = ap (λ (cs : List (Call Text)). Sync (file_name (name_of g)) ∷ cs) (syncs_both gs hs)

all_taken : (fs : List File) (i : ℕ) (before after : Disk Text → Type 0) → length fs ≤ i → Synced (take i fs) before after → Went {E = StoreFault} (syncs fs) before after (Ok tt)
all_taken fs i before after h s = subst (λ (l : List File). Went {E = StoreFault} (syncs l) before after (Ok tt)) (take_all i fs h) s.went

-- and then the names
pub names_fail : {S : Type 0} (fs : List File) (i : ℕ) (x : DiskFault) (y : StoreFault) (before mid after : Disk Text → Type 0) → length fs ≤ i → Synced (take i fs) before mid → Steps {T = S} SyncNames mid after (Err x) → Went (all_spelled file_name (sync_all (named fs))) before after (Err y)
names_fail fs i x y before mid after h s steps =
    subst (λ (cs : List (Call Text)). Went cs before after (Err y)) (sym (sync_all_is fs)) (went_both (syncs fs) (SyncNames ∷ []) before mid after tt (Err y) (all_taken fs i before mid h s) (went_stops SyncNames [] mid after x y steps))

pub names_done : {S : Type 0} (fs : List File) (i : ℕ) (a : S) (before mid after : Disk Text → Type 0) → length fs ≤ i → Synced (take i fs) before mid → Steps SyncNames mid after (Ok a) → Went {E = StoreFault} (all_spelled file_name (sync_all (named fs))) before after (Ok tt)
names_done fs i a before mid after h s steps =
    subst (λ (cs : List (Call Text)). Went {E = StoreFault} cs before after (Ok tt)) (sym (sync_all_is fs)) (went_both (syncs fs) (SyncNames ∷ []) before mid after tt (Ok tt) (all_taken fs i before mid h s) (went_last SyncNames mid after a tt steps))

-- ---- snapshots

pub record SnapsRun (before after : Disk Text → Type 0) (ms : List ℕ) (old new : FilesRead) : Type 0 where
  pub each : (d : Disk Text) → before d → after d × ReadsSnaps (folder d) ms old new

pub snaps_none : (states : Disk Text → Type 0) (ms : List ℕ) (old : FilesRead) → ms ≡ [] → SnapsRun states states ms old old
snaps_none states ms old e = record { each = λ d y. (y, record { meta = refl; segments = refl; newest = λ z. subst (λ (l : List ℕ). IsNewest (folder d) l old.snap) (sym e) (newest_none (folder d) old.snap z) }) }

pub snaps_more : (before mid after : Disk Text → Type 0) (ms : List ℕ) (i left e : ℕ) (old now new : FilesRead) (x : Unit {0}) → i < length ms → left ≡ i + 1 → Below ms
    → SnapsRun before mid (drop left ms) old now → Sees {E = StoreFault} mid after (Ok x) (λ d y. new ≡ with_snap (snap_at (folder d) (get_or ms i e)) now) → SnapsRun before after (drop i ms) old new
snaps_more before mid after ms i left e old now new x h one digits run sees = record {
  each = λ d y.
      let z = run.each d y in
      let w = sees.each d z.0 in (
        w.0,
        record {
          meta = ap (λ (r : FilesRead). r.meta) w.1 ∙ z.1.meta;
          segments = ap (λ (r : FilesRead). r.segments) w.1 ∙ z.1.segments;
          newest = λ none. subst (λ (l : List ℕ). IsNewest (folder d) l new.snap) (sym (drop_head ms i e h ∙ ap (λ (k : ℕ). get_or ms i e ∷ drop k ms) (sym one)))
              (newest_more (folder d) (get_or ms i e) (drop left ms) now.snap new.snap (below_at i ms e digits h) (z.1.newest none) (ap (λ (r : FilesRead). r.snap) w.1));
        },
      );
}

pub snaps_done : (before after : Disk Text → Type 0) (ms : List ℕ) (left : ℕ) (u : Unit {0}) (old new : FilesRead) → left ≡ 0 → SnapsRun before after (drop left ms) old new → Sees {E = StoreFault} before after (Ok u) (λ d x. ReadsSnaps (folder d) ms old new)
snaps_done before after ms left u old new none run = record { each = λ d y. let z = run.each d y in (z.0, subst (λ (k : ℕ). ReadsSnaps (folder d) (drop k ms) old new) none z.1) }

pub snaps_fail : (before mid after : Disk Text → Type 0) (ms ks : List ℕ) (old now new end : FilesRead) (r : Result (Unit {0}) StoreFault) (y : StoreFault) (Q : Disk Text → Unit {0} → Type 0) → SnapsRun before mid ks old now → Sees mid after r Q → Sees {T = Unit {0}} before after (Err y) (λ d x. ReadsSnaps (folder d) ms old end)
snaps_fail before mid after ms ks old now new end r y Q run sees = record { each = λ d z. ((sees.each d (run.each d z).0).0, tt) }

-- ---- segments

pub record SegmentsRun (before after : Disk Text → Type 0) (ms : List ℕ) (old new : FilesRead) : Type 0 where
  pub each : (d : Disk Text) → before d → after d × ReadsSegments (folder d) ms old new

pub segments_none : (states : Disk Text → Type 0) (old : FilesRead) → SegmentsRun states states [] old old
unfolding all_read
segments_none states old = record { each = λ d y. (y, record { meta = refl; snap = refl; segments = refl }) }

read_push : (s : SegmentsRead) (xs : List Numbered) (x : Numbered) → all_read node_format s (xs ++ x ∷ []) ≡ with_segment node_format x (all_read node_format s xs)
unfolding all_read
read_push s [] x = refl
read_push s (y ∷ xs) x = read_push (with_segment node_format y s) xs x

map_push : (f : ℕ → Numbered) (xs : List ℕ) (x : ℕ) → map f (xs ++ x ∷ []) ≡ map f xs ++ f x ∷ []
map_push f [] x = refl
map_push f (y ∷ xs) x = ap (λ (l : List Numbered). f y ∷ l) (map_push f xs x)

pub segments_more : (before mid after : Disk Text → Type 0) (ms : List ℕ) (i e : ℕ) (bytes : List ℕ) (old now new : FilesRead) {F : Type 0} (a : Vec ℕ) → i < length ms
    → SegmentsRun before mid (take i ms) old now → Sees {T = Vec ℕ} {E = F} mid after (Ok a) (λ d b. b.items ≡ ((folder d).read (Segment (get_or ms i e))).bytes) → a.items ≡ bytes
    → new ≡ with_segment_read (with_segment node_format (record { number = get_or ms i e; bytes = bytes }) now.segments) now → SegmentsRun before after (take (i + 1) ms) old new
segments_more before mid after ms i e bytes old now new a h run sees same now_is = record {
  each = λ d y.
      let z = run.each d y in
      let w = sees.each d z.0 in
      let here : record { number = get_or ms i e; bytes = bytes } ≡ at (folder d).read (get_or ms i e) = (λ k. record { number = get_or ms i e; bytes = (sym same ∙ w.1) k }) in (
        w.0,
        record {
          meta = ap (λ (r : FilesRead). r.meta) now_is ∙ z.1.meta;
          snap = ap (λ (r : FilesRead). r.snap) now_is ∙ z.1.snap;
          segments =
              ap (λ (r : FilesRead). r.segments) now_is ∙ ap (λ (x : Numbered). with_segment node_format x now.segments) here
              ∙ ap (with_segment node_format (at (folder d).read (get_or ms i e))) z.1.segments
              ∙ sym (read_push old.segments (map (at (folder d).read) (take i ms)) (at (folder d).read (get_or ms i e)))
              ∙ ap (all_read node_format old.segments) (sym (map_push (at (folder d).read) (take i ms) (get_or ms i e)))
              ∙ ap (λ (l : List ℕ). all_read node_format old.segments (map (at (folder d).read) l)) (sym (take_more ms i e h));
        },
      );
}

pub segments_done : (before after : Disk Text → Type 0) (ms : List ℕ) (i : ℕ) (u : Unit {0}) (old new : FilesRead) → length ms ≤ i → SegmentsRun before after (take i ms) old new → Sees {E = StoreFault} before after (Ok u) (λ d x. ReadsSegments (folder d) ms old new)
segments_done before after ms i u old new h run = record { each = λ d y. let z = run.each d y in (z.0, subst (λ (l : List ℕ). ReadsSegments (folder d) l old new) (take_all i ms h) z.1) }

pub segments_fail : {T E : Type 0} (before mid after : Disk Text → Type 0) (ms ks : List ℕ) (old now end : FilesRead) (r : Result T E) (y : StoreFault) (Q : Disk Text → T → Type 0) → SegmentsRun before mid ks old now → Sees mid after r Q → Sees {T = Unit {0}} before after (Err y) (λ d x. ReadsSegments (folder d) ms old end)
segments_fail before mid after ms ks old now end r y Q run sees = record { each = λ d z. ((sees.each d (run.each d z).0).0, tt) }

-- ---- all syncs, and then the repair

pub front_err : (l : FolderList) (last : Option LastSegment) (fs : List File) (before after : Disk Text → Type 0) (x y : StoreFault) → fs ≡ l.files → Went {E = StoreFault} (all_spelled file_name (sync_all (named fs))) before after (Err x) → Went (all_spelled file_name (front_calls l last)) before after (Err y)
front_err l last fs before after x y is went =
    subst (λ (cs : List (Call Text)). Went cs before after (Err y)) (sym (spelled_both (sync_all (named l.files)) (repairs_of last)))
    (went_front (all_spelled file_name (sync_all (named l.files))) (all_spelled file_name (repairs_of last)) before after x y (subst (λ (gs : List File). Went (all_spelled file_name (sync_all (named gs))) before after (Err x)) is went))

pub front_ok : (l : FolderList) (last : Option LastSegment) (fs : List File) (before mid after : Disk Text → Type 0) (u : Unit {0}) (r : Result (Unit {0}) StoreFault) → fs ≡ l.files → Went {E = StoreFault} (all_spelled file_name (sync_all (named fs))) before mid (Ok u) → Went (all_spelled file_name (repairs_of last)) mid after r → Went (all_spelled file_name (front_calls l last)) before after r
front_ok l last fs before mid after u r is went then =
    subst (λ (cs : List (Call Text)). Went cs before after r) (sym (spelled_both (sync_all (named l.files)) (repairs_of last)))
    (went_both (all_spelled file_name (sync_all (named l.files))) (all_spelled file_name (repairs_of last)) before mid after u r (subst (λ (gs : List File). Went {E = StoreFault} (all_spelled file_name (sync_all (named gs))) before mid (Ok u)) is went) then)
