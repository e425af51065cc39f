-- All files of a folder, read in turn.
use Rattle.std.proofs.Common.{◌≡◌, ℕ, Bool, true, false, List, Option, Result, Ok, Err, sym, ap, ◌∙◌, subst, arith}
use Rattle.std.specs.Prelude.{map}
use Rattle.disk_model.specs.Disk.{Disk}
use Rattle.disk_model.specs.Trait.{Text}
use Rattle.store_laws.specs.Names.{First, Second, Snapshot, NodeDisk}
use Rattle.store_laws.specs.Store.{no_meta, no_snap, newest}
use Rattle.store_laws.specs.Damage.{numbered}
use Rattle.store_format.specs.Metadata.{meta_in}
use Rattle.store_format.specs.NodeFormat.{node_format}
use Rattle.store_format.proofs.BatchesLawful.{is_lawful}
use Rattle.store_format.specs.SegmentLog.{none_read, all_read, IsRead}
use Rattle.store_format.specs.FilesRead.{FilesRead, nothing_read}
use Rattle.store_format.proofs.Segments.{is_read}
use Rattle.segment_store.specs.declared.fault.StoreFault.{StoreFault}
use Rattle.segment_store.specs.Keeps.{folder}
use Rattle.segment_store.specs.Listed.{FolderList, IsListed}
use Rattle.segment_store.specs.Loading.{IsPlain, Sees}
use Rattle.segment_store.specs.Open.{is_listed}
use Rattle.segment_store.specs.Reads.{ReadsMeta, ReadsSnaps, ReadsSegments, ReadsAll, at}
use Rattle.segment_store.proofs.LoadRooms.{numbered_at}
use Rattle.segment_store.proofs.LoadSnaps.{newest_is, metas_are}

all_of : (l : FolderList) (D : NodeDisk) (r0 r1 r2 r3 r4 : FilesRead) (first second : Option ℕ) (f1 f2 : Bool) (ms ns : List ℕ) → r0 ≡ nothing_read → f1 ≡ l.first → f2 ≡ l.second → ms ≡ l.snapshots → ns ≡ l.segments
    → ReadsMeta true f1 D r0 r1 first → ReadsMeta false f2 D r1 r2 second → ReadsSnaps D ms r2 r3 → ReadsSegments D ns r3 r4 → IsListed l D → IsPlain D → ReadsAll D r4 first second
all_of l D r0 r1 r2 r3 r4 first second f1 f2 ms ns none e1 e2 em en meta1 meta2 snaps segs listed plain =
    let m1 = meta1 (listed.there First (omega arith) ∙ sym e1) (plain First) in
    let m2 = meta2 (listed.there Second (omega arith) ∙ sym e2) (plain Second) in
    let metas : r4.meta ≡ newest (newest no_meta (meta_in true (D.read First).bytes)) (meta_in false (D.read Second).bytes) =
    segs.meta ∙ snaps.meta ∙ ap (λ (r : FilesRead). r.meta) m2.0 ∙ ap (λ (r : FilesRead). newest r.meta (meta_in false (D.read Second).bytes)) m1.0 ∙ ap (λ (r : FilesRead). newest (newest r.meta (meta_in true (D.read First).bytes)) (meta_in false (D.read Second).bytes)) none in
    let before : r2.snap ≡ no_snap = ap (λ (r : FilesRead). r.snap) m2.0 ∙ ap (λ (r : FilesRead). r.snap) m1.0 ∙ ap (λ (r : FilesRead). r.snap) none in
    let start : r3.segments ≡ none_read = snaps.segments ∙ ap (λ (r : FilesRead). r.segments) m2.0 ∙ ap (λ (r : FilesRead). r.segments) m1.0 ∙ ap (λ (r : FilesRead). r.segments) none in
    let list : map (at D.read) ns ≡ numbered 10000000000000000 D.read = ap (map (at D.read)) (en ∙ listed.segments) ∙ sym (numbered_at 10000000000000000 D.read) in
    let all : r4.segments ≡ all_read node_format none_read (numbered 10000000000000000 D.read) = segs.segments ∙ (λ i. all_read node_format (start i) (list i)) in
    record {
      meta = metas_are D r4.meta metas;
      snap = segs.snap ∙ newest_is D ms r3.snap plain (λ j h. listed.there (Snapshot j) h ∙ ap (λ (l : List ℕ). is_listed j l) (sym em)) (snaps.newest before);
      segments = subst (IsRead node_format 10000000000000000 D.read) (sym all) (is_read node_format is_lawful 10000000000000000 D.read);
      first_size = m1.1;
      second_size = m2.1;
    }

pub reads_all : (l : FolderList) (s0 s1 s2 s3 s4 : Disk Text → Type 0) (r0 r1 r2 r3 r4 : FilesRead) (first second : Option ℕ) (f1 f2 : Bool) (ms ns : List ℕ) (u v : Unit {0}) → r0 ≡ nothing_read → f1 ≡ l.first → f2 ≡ l.second → ms ≡ l.snapshots → ns ≡ l.segments
    → Sees {E = StoreFault} s0 s1 (Ok first) (λ d x. ReadsMeta true f1 (folder d) r0 r1 x) → Sees {E = StoreFault} s1 s2 (Ok second) (λ d x. ReadsMeta false f2 (folder d) r1 r2 x)
    → Sees {E = StoreFault} s2 s3 (Ok u) (λ d x. ReadsSnaps (folder d) ms r2 r3) → Sees {E = StoreFault} s3 s4 (Ok v) (λ d x. ReadsSegments (folder d) ns r3 r4)
    → Sees {T = Option ℕ × Option ℕ} {E = StoreFault} s0 s4 (Ok (first, second)) (λ d x. IsListed l (folder d) → IsPlain (folder d) → ReadsAll (folder d) r4 x.0 x.1)
reads_all l s0 s1 s2 s3 s4 r0 r1 r2 r3 r4 first second f1 f2 ms ns u v none e1 e2 em en a b c e = record {
  each = λ d y.
      let z1 = a.each d y in
      let z2 = b.each d z1.0 in
      let z3 = c.each d z2.0 in
      let z4 = e.each d z3.0 in
      (z4.0, λ listed plain. all_of l (folder d) r0 r1 r2 r3 r4 first second f1 f2 ms ns none e1 e2 em en z1.1 z2.1 z3.1 z4.1 listed plain);
}

pub reads_folder : (s0 s1 s2 : Disk Text → Type 0) (l : FolderList) (r : FilesRead) (sizes : Option ℕ × Option ℕ) → Sees {E = StoreFault} s0 s1 (Ok l) (λ d x. IsListed x (folder d))
    → Sees {E = StoreFault} s1 s2 (Ok sizes) (λ d x. IsListed l (folder d) → IsPlain (folder d) → ReadsAll (folder d) r x.0 x.1)
    → Sees {T = FolderList × (Option ℕ × Option ℕ)} {E = StoreFault} s0 s2 (Ok (l, sizes)) (λ d x. IsListed x.0 (folder d) × (IsPlain (folder d) → ReadsAll (folder d) r x.1.0 x.1.1))
reads_folder s0 s1 s2 l r sizes a b = record { each = λ d y. let z = a.each d y in let w = b.each d z.0 in (w.0, (z.1, λ plain. w.1 z.1 plain)) }

-- ---- where a call fails after others

pub record Stays (old new : Disk Text → Type 0) : Type 0 where
  pub each : (d : Disk Text) → old d → new d

pub stays_by : {T E : Type 0} (old new : Disk Text → Type 0) (r : Result T E) (P : Disk Text → T → Type 0) → Sees old new r P → Stays old new
stays_by old new r P sees = record { each = λ d y. (sees.each d y).0 }

pub stays_then : (old mid new : Disk Text → Type 0) → Stays old mid → Stays mid new → Stays old new
stays_then old mid new a b = record { each = λ d y. b.each d (a.each d y) }

pub stays_fail : {T F : Type 0} (old new : Disk Text → Type 0) (y : F) (Q : Disk Text → T → Type 0) → Stays old new → Sees {T = T} old new (Err y) Q
stays_fail old new y Q stays = record { each = λ d z. (stays.each d z, tt) }
