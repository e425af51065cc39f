-- How many times the files of a folder are read, and how many calls follow.
use Rattle.std.proofs.Common.{◌≡◌, inl, inr, ℕ, zero, suc, ◌+◌, ◌<◌, ◌≤◌, Bool, true, false, cond, List, [], ◌∷◌, ◌++◌, length, take, drop, get_or, Option, Ok, Err, refl, sym, ap, ◌∙◌, arith, length-append}
use Rattle.std.specs.Prelude.{◌==◌, max}
use Rattle.std.specs.Global.{Vec}
use Rattle.std.proofs.lemmas.Bool.{cases_eq, cases_lt, cond-true, cond-false, lt-ltb, le-ltb, eq-eqb, ne_eqb}
use Rattle.std.proofs.lemmas.List.{append-nil, take_more, take_all, take-append-drop}
use Rattle.dq_base.specs.Faults.{one_more}
use Rattle.disk_model.specs.Disk.{Disk}
use Rattle.disk_model.specs.Trait.{Text, MakesCalls}
use Rattle.store_laws.specs.Meta.{file_of}
use Rattle.store_laws.specs.Names.{Name, First, Second, Segment, Snapshot, NodeFiles, NodeDisk}
use Rattle.store_laws.specs.Store.{Snap}
use Rattle.store_laws.specs.Snapshots.{AllBelow}
use Rattle.store_laws.specs.WholeLoad.{is_stale}
use Rattle.store_format.specs.FilesRead.{FilesRead, newer_snap, with_snap}
use Rattle.store_format.specs.Snapshots.{snap_of}
use Rattle.store_format.specs.declared.segment_log.LastSegment.{LastSegment}
use Rattle.store_format.proofs.Lawfully.{snap_yes, was_snapshot}
use Rattle.segment_store.specs.declared.fault.StoreFault.{StoreFault}
use Rattle.segment_store.specs.Keeps.{folder}
use Rattle.segment_store.specs.Listed.{FolderList, IsListed}
use Rattle.segment_store.specs.LoadCounts.{Counts, LoadCounts, reads_for, segment_reads, snapshot_reads, file_reads, look_count, segments_count, newest_from, snapshot_count, snapshots_count, meta_count, list_count, segments_there, snapshots_there, files_there, repair_count, settling_count, settle_count, load_count}
use Rattle.segment_store.specs.Loading.{Sees, IsSeen, IsPlain}
use Rattle.segment_store.specs.Open.{segment_numbers, snapshot_numbers}
use Rattle.segment_store.specs.Reads.{snap_at, ReadsAll}
use Rattle.segment_store.proofs.LoadCounting.{within_err, within_ok, exactly, then_err, then_ok, counts_one, counts_err, counts_then_err, counts_then_ok, stays_err, stays_ok}
use Rattle.segment_store.proofs.LoadReads.{Stays, stays_by, stays_then}
use Rattle.segment_store.proofs.LoadNames.{drop_head}
use Rattle.segment_store.proofs.LoadRuns.{SnapsRun, SegmentsRun}

-- ---- segments, in turn

abbrev reads_at : NodeFiles → ℕ → ℕ
reads_at g m = reads_for (length (g (Segment m)).bytes)

segments_both : (g : NodeFiles) (xs ys : List ℕ) → segments_count g (xs ++ ys) ≡ segments_count g xs + segments_count g ys
segments_both g [] ys = omega arith
segments_both g (x ∷ xs) ys = let z = segments_both g xs ys in omega (arith, z)

segments_push : (g : NodeFiles) (ms : List ℕ) (i e : ℕ) → i < length ms → segments_count g (take (i + 1) ms) ≡ segments_count g (take i ms) + reads_at g (get_or ms i e)
segments_push g ms i e h =
    let z = segments_both g (take i ms) (get_or ms i e ∷ []) in
    let w : segments_count g (take (i + 1) ms) ≡ segments_count g (take i ms ++ get_or ms i e ∷ []) = ap (segments_count g) (take_more ms i e h) in
    omega (arith, z, w)

segments_front : (g : NodeFiles) (ms : List ℕ) (i : ℕ) → segments_count g (take i ms) ≤ segments_count g ms
segments_front g ms i =
    let z = segments_both g (take i ms) (drop i ms) in
    let w : segments_count g (take i ms ++ drop i ms) ≡ segments_count g ms = ap (segments_count g) (take-append-drop i ms) in
    omega (arith, z, w)

pub record SegmentsCounted (old : Disk Text → Type 0) (ms : List ℕ) (made now : ℕ) : Type 0 where
  pub each : (d : Disk Text) → old d → MakesCalls {T = Unit {0}} {E = StoreFault} (segments_count (folder d).read ms) made now (Ok tt)

pub counted_none : (old : Disk Text → Type 0) (made : ℕ) → SegmentsCounted old [] made made
counted_none old made = record { each = λ d b. record { made = 0; within = omega arith; counted = refl; all = refl } }

module _ (old mid : Disk Text → Type 0) (ms : List ℕ) (i e : ℕ) (before now : FilesRead) (made next end : ℕ) (h : i < length ms) (run : SegmentsRun old mid (take i ms) before now) (counted : SegmentsCounted old (take i ms) made next) where
  pub counted_more : (a : Vec ℕ) → Counts {E = StoreFault} (λ d. reads_at (folder d).read (get_or ms i e)) mid next end (Ok a) → SegmentsCounted old (take (i + 1) ms) made end
  counted_more a k = record {
    each = λ d b. then_ok _ _ _ made next end tt a tt (segments_push (folder d).read ms i e h) (counted.each d b) (k.each d (run.each d b).0);
  }

  within : (d : Disk Text) → segments_count (folder d).read (take i ms) + reads_at (folder d).read (get_or ms i e) ≤ segments_count (folder d).read ms
  within d =
      let z = segments_push (folder d).read ms i e h in
      let w = segments_front (folder d).read ms (i + 1) in
      omega (arith, z, w)

  pub counted_err : (x y : StoreFault) → Counts {T = Vec ℕ} {E = StoreFault} (λ d. reads_at (folder d).read (get_or ms i e)) mid next end (Err x) → Counts {T = Unit {0}} (λ d. segments_count (folder d).read ms) old made end (Err y)
  counted_err x y k = record { each = λ d b. then_err _ _ _ made next end tt x y (within d) (counted.each d b) (k.each d (run.each d b).0) }

  pub counted_stop : (a : Vec ℕ) (y : StoreFault) → Counts {E = StoreFault} (λ d. reads_at (folder d).read (get_or ms i e)) mid next end (Ok a) → Counts {T = Unit {0}} (λ d. segments_count (folder d).read ms) old made end (Err y)
  counted_stop a y k = record {
    each = λ d b.
        within_ok {S = Unit {0}} {E = StoreFault} (segments_count (folder d).read (take i ms) + reads_at (folder d).read (get_or ms i e)) _ made end tt y (within d)
        (then_ok _ _ _ made next end tt a tt refl (counted.each d b) (k.each d (run.each d b).0));
  }

pub counted_all : (old : Disk Text → Type 0) (ms : List ℕ) (i made now : ℕ) (u : Unit {0}) → length ms ≤ i → SegmentsCounted old (take i ms) made now → Counts {E = StoreFault} (λ d. segments_count (folder d).read ms) old made now (Ok u)
counted_all old ms i made now u h counted = record {
  each = λ d b. exactly _ _ made now tt u (sym (ap (segments_count (folder d).read) (take_all i ms h))) (counted.each d b);
}

-- ---- snapshots, from the last one down

newer_index : (s old : Snap) → (newer_snap s old).index ≡ max old.index s.index
unfolding newer_snap
newer_index s old = elim (cases_lt old.index s.index) [
  | inl l ↦ ap (λ (x : Snap). x.index) (cond-true _ s old (lt-ltb _ _ l)) ∙ omega (arith, l)
  | inr l ↦ ap (λ (x : Snap). x.index) (cond-false _ s old (le-ltb _ _ l)) ∙ omega (arith, l)
]

snapshots_behind : (g : NodeFiles) (index k : ℕ) (ms : List ℕ) → snapshots_count g index (drop k ms) ≤ snapshots_count g index ms
snapshots_behind g index zero ms = omega arith
snapshots_behind g index (suc k) [] = omega arith
snapshots_behind g index (suc k) (m ∷ ms) = let z = snapshots_behind g index k ms in omega (arith, z)

pub record SnapsCounted (old : Disk Text → Type 0) (index : ℕ) (ms : List ℕ) (newest made now : ℕ) : Type 0 where
  pub each : (d : Disk Text) → old d → MakesCalls {T = Unit {0}} {E = StoreFault} (snapshots_count (folder d).read index ms) made now (Ok tt) × (newest ≡ newest_from (folder d).read index ms)

pub snaps_counted_none : (old : Disk Text → Type 0) (index : ℕ) (ms : List ℕ) (made : ℕ) → ms ≡ [] → SnapsCounted old index ms index made made
snaps_counted_none old index ms made e = record {
  each = λ d b. (record { made = 0; within = omega arith; counted = refl; all = sym (ap (snapshots_count (folder d).read index) e) }, sym (ap (newest_from (folder d).read index) e));
}

module _ (old mid : Disk Text → Type 0) (ms : List ℕ) (i left e : ℕ) (first now : FilesRead) (made next end : ℕ) (h : i < length ms) (one : left ≡ i + 1) (run : SnapsRun old mid (drop left ms) first now) (counted : SnapsCounted old first.snap.index (drop left ms) now.snap.index made next) where
  abbrev index : ℕ
  index = first.snap.index

  abbrev here : ℕ
  here = get_or ms i e

  parted : drop i ms ≡ here ∷ drop left ms
  parted = drop_head ms i e h ∙ ap (λ (k : ℕ). here ∷ drop k ms) (sym one)

  sum_is : (d : Disk Text) → old d → snapshots_count (folder d).read index (drop i ms) ≡ snapshots_count (folder d).read index (drop left ms) + snapshot_count (folder d).read now.snap.index here
  sum_is d b =
      ap (snapshots_count (folder d).read index) parted
      ∙ ap (λ (k : ℕ). snapshots_count (folder d).read index (drop left ms) + snapshot_count (folder d).read k here) (sym (counted.each d b).1)

  pub snaps_counted_more : (new : FilesRead) (u : Unit {0}) (after : Disk Text → Type 0) → Sees {E = StoreFault} mid after (Ok u) (λ d x. new ≡ with_snap (snap_at (folder d) here) now)
      → Counts {E = StoreFault} (λ d. snapshot_count (folder d).read now.snap.index here) mid next end (Ok u) → SnapsCounted old index (drop i ms) new.snap.index made end
  snaps_counted_more new u after sees k = record {
    each = λ d b.
        let m = (run.each d b).0 in
        let c = counted.each d b in (
          then_ok _ _ _ made next end tt u tt (sum_is d b) c.0 (k.each d m),
          ap (λ (r : FilesRead). r.snap.index) (sees.each d m).1 ∙ newer_index (snap_at (folder d) here) now.snap
              ∙ ap (λ (n : ℕ). max n (snap_at (folder d) here).index) c.1 ∙ sym (ap (newest_from (folder d).read index) parted),
        );
  }

  pub snaps_counted_err : (x y : StoreFault) → Counts {T = Unit {0}} (λ d. snapshot_count (folder d).read now.snap.index here) mid next end (Err x) → Counts {T = Unit {0}} (λ d. snapshots_count (folder d).read index ms) old made end (Err y)
  snaps_counted_err x y k = record {
    each = λ d b.
        let z = sum_is d b in
        let w = snapshots_behind (folder d).read index i ms in
        then_err _ _ _ made next end tt x y (omega (arith, z, w)) (counted.each d b).0 (k.each d (run.each d b).0);
  }

pub snaps_counted_all : (old : Disk Text → Type 0) (index : ℕ) (ms : List ℕ) (left newest made now : ℕ) (u : Unit {0}) → left ≡ 0 → SnapsCounted old index (drop left ms) newest made now → Counts {E = StoreFault} (λ d. snapshots_count (folder d).read index ms) old made now (Ok u)
snaps_counted_all old index ms left newest made now u none counted = record {
  each = λ d b. exactly _ _ made now tt u (sym (ap (λ (k : ℕ). snapshots_count (folder d).read index (drop k ms)) none)) (counted.each d b).0;
}

-- ---- one file

pub meta_is : (is_there first : Bool) (d : NodeDisk) (n : Name) → is_there ≡ true → n ≡ file_of first → meta_count is_there (d.read (file_of first)) ≡ reads_for (length (d.read n).bytes)
meta_is is_there first d n there name = ap (λ (b : Bool). meta_count b (d.read (file_of first))) there ∙ ap (λ (m : Name). reads_for (length (d.read m).bytes)) (sym name)

pub older_reads : (g : NodeFiles) (newest m : ℕ) → m < newest → snapshot_count g newest m ≡ 0
older_reads g newest m h = cond-true _ _ _ (lt-ltb _ _ h)

pub newer_reads : (g : NodeFiles) (newest m : ℕ) → newest ≤ m → snapshot_count g newest m ≡ reads_for (length (g (Snapshot m)).bytes)
newer_reads g newest m h = cond-false _ _ _ (le-ltb _ _ h)

-- ---- what was listed is what is there

segments_are : (n : ℕ) (g : NodeFiles) → segments_count g (segment_numbers n g) ≡ segment_reads n g
unfolding segment_numbers segment_reads
segments_are zero g = refl
segments_are (suc n) g =
    segments_both g (segment_numbers n g) (cond (g (Segment n)).there (n ∷ []) []) ∙ (λ i. segments_are n g i + last (g (Segment n)).there i)
  where
    last : (b : Bool) → segments_count g (cond b (n ∷ []) []) ≡ cond b (reads_for (length (g (Segment n)).bytes)) 0
    last true = omega arith
    last false = refl

newest_push : (g : NodeFiles) (i : ℕ) (xs : List ℕ) (x : ℕ) → newest_from g i (xs ++ x ∷ []) ≡ newest_from g (max i (snap_of x (g (Snapshot x)).bytes).index) xs
newest_push g i [] x = refl
newest_push g i (y ∷ xs) x = ap (λ (k : ℕ). max k (snap_of y (g (Snapshot y)).bytes).index) (newest_push g i xs x)

snapshots_push : (g : NodeFiles) (i : ℕ) (xs : List ℕ) (x : ℕ) → snapshots_count g i (xs ++ x ∷ []) ≡ snapshots_count g (max i (snap_of x (g (Snapshot x)).bytes).index) xs + snapshot_count g i x
snapshots_push g i [] x = refl
snapshots_push g i (y ∷ xs) x =
    let j = max i (snap_of x (g (Snapshot x)).bytes).index in
    let z : snapshots_count g i (xs ++ x ∷ []) ≡ snapshots_count g j xs + snapshot_count g i x = snapshots_push g i xs x in
    let w : snapshot_count g (newest_from g i (xs ++ x ∷ [])) y ≡ snapshot_count g (newest_from g j xs) y = ap (λ (k : ℕ). snapshot_count g k y) (newest_push g i xs x) in
    (λ k. z k + w k) ∙ swap (snapshots_count g j xs) (snapshot_count g i x) (snapshot_count g (newest_from g j xs) y)
  where
    swap : (a b c : ℕ) → (a + b) + c ≡ (a + c) + b
    swap a b c = omega arith

newest_least : (g : NodeFiles) (i : ℕ) (xs : List ℕ) → i ≤ newest_from g i xs
newest_least g i [] = omega arith
newest_least g i (x ∷ xs) = let z = newest_least g i xs in omega (arith, z)

none_older : (g : NodeFiles) (i : ℕ) (xs : List ℕ) → AllBelow i xs → snapshots_count g i xs ≡ 0
none_older g i [] b = refl
none_older g i (x ∷ xs) b =
    let z = none_older g i xs b.1 in
    let low : x < i = b.0 in
    let least = newest_least g i xs in
    let w = older_reads g (newest_from g i xs) x (omega (arith, low, least)) in
    omega (arith, z, w)

below_up : (a b : ℕ) (xs : List ℕ) → a ≤ b → AllBelow a xs → AllBelow b xs
below_up a b [] l x = tt
below_up a b (y ∷ xs) l x = let z : y < a = x.0 in (omega (arith, l, z), below_up a b xs l x.1)

below_both : (a : ℕ) (xs ys : List ℕ) → AllBelow a xs → AllBelow a ys → AllBelow a (xs ++ ys)
below_both a [] ys x y = y
below_both a (z ∷ xs) ys x y = (x.0, below_both a xs ys x.1 y)

snapshots_below : (n : ℕ) (g : NodeFiles) → AllBelow n (snapshot_numbers n g)
unfolding snapshot_numbers
snapshots_below zero g = tt
snapshots_below (suc n) g = below_both (suc n) (snapshot_numbers n g) (cond (g (Snapshot n)).there (n ∷ []) []) (below_up n (suc n) (snapshot_numbers n g) (omega arith) (snapshots_below n g)) (one (g (Snapshot n)).there)
  where
    one : (b : Bool) → AllBelow (suc n) (cond b (n ∷ []) [])
    one true = (omega arith, tt)
    one false = tt

snapshots_are : (n : ℕ) (g : NodeFiles) → snapshots_count g 0 (snapshot_numbers n g) ≡ snapshot_reads n g
unfolding snapshot_numbers snapshot_reads
snapshots_are zero g = refl
snapshots_are (suc n) g = which (snapshots_are n g) (g (Snapshot n)).there
  where
    size : ℕ
    size = reads_for (length (g (Snapshot n)).bytes)

    found : ℕ
    found = (snap_of n (g (Snapshot n)).bytes).index

    behind : snapshots_count g 0 (snapshot_numbers n g) ≡ snapshot_reads n g → snapshots_count g (max 0 found) (snapshot_numbers n g) ≡ cond (found == 0) (snapshot_reads n g) 0
    behind rest = elim (cases_eq found 0) [
      | inl none ↦
          let low : max 0 found ≡ 0 = omega (arith, none) in
          ap (λ (k : ℕ). snapshots_count g k (snapshot_numbers n g)) low ∙ rest ∙ sym (cond-true _ _ _ (eq-eqb found 0 none))
      | inr some ↦
          let is : found ≡ n = ap (λ (s : Snap). s.index) (snap_yes n (g (Snapshot n)).bytes (was_snapshot n (g (Snapshot n)).bytes some)) in
          let top : max 0 found ≡ n = omega (arith, is) in
          ap (λ (k : ℕ). snapshots_count g k (snapshot_numbers n g)) top ∙ none_older g n (snapshot_numbers n g) (snapshots_below n g) ∙ sym (cond-false _ (snapshot_reads n g) 0 (ne_eqb found 0 some))
    ]

    which : snapshots_count g 0 (snapshot_numbers n g) ≡ snapshot_reads n g → (b : Bool) → snapshots_count g 0 (snapshot_numbers n g ++ cond b (n ∷ []) []) ≡ cond b (size + cond (found == 0) (snapshot_reads n g) 0) (snapshot_reads n g)
    which rest true =
        let y = behind rest in
        let z = snapshots_push g 0 (snapshot_numbers n g) n in
        let w : snapshot_count g 0 n ≡ size = newer_reads g 0 n (omega arith) in
        omega (arith, y, z, w)
    which rest false = ap (snapshots_count g 0) (append-nil (snapshot_numbers n g)) ∙ rest

pub list_is : (l : FolderList) (d : NodeDisk) → IsListed l d → list_count l d.read ≡ file_reads d.read
list_is l d listed = λ i.
    meta_count (sym (listed.there First (omega arith)) i) (d.read First)
    + (meta_count (sym (listed.there Second (omega arith)) i) (d.read Second)
    + ((ap (snapshots_count d.read 0) listed.snapshots ∙ snapshots_are 10000000000000000 d.read) i
    + (ap (segments_count d.read) listed.segments ∙ segments_are 10000000000000000 d.read) i))

-- ---- all files, in turn

module _ (l : FolderList) (f1 f2 : Bool) (ms ns : List ℕ) (index : ℕ) (e1 : f1 ≡ l.first) (e2 : f2 ≡ l.second) (em : ms ≡ l.snapshots) (en : ns ≡ l.segments) (from : index ≡ 0) where
  abbrev one : Disk Text → ℕ
  one d = meta_count f1 ((folder d).read First)

  abbrev two : Disk Text → ℕ
  two d = meta_count f2 ((folder d).read Second)

  abbrev three : Disk Text → ℕ
  three d = snapshots_count (folder d).read index ms

  abbrev four : Disk Text → ℕ
  four d = segments_count (folder d).read ns

  abbrev all : Disk Text → ℕ
  all d = list_count l (folder d).read

  total : (d : Disk Text) → all d ≡ one d + (two d + (three d + four d))
  total d = λ i. meta_count (sym e1 i) ((folder d).read First) + (meta_count (sym e2 i) ((folder d).read Second) + (snapshots_count (folder d).read (sym from i) (sym em i) + segments_count (folder d).read (sym en i)))

  pub first_failed : {T : Type 0} (s0 : Disk Text → Type 0) (m0 m1 : ℕ) (x y : StoreFault) → Counts {T = Option ℕ} {E = StoreFault} one s0 m0 m1 (Err x) → Counts {T = T} all s0 m0 m1 (Err y)
  first_failed s0 m0 m1 x y k = counts_err one all s0 m0 m1 x y (λ d. let z = total d in omega (arith, z)) k

  module _ (s0 s1 : Disk Text → Type 0) (m0 m1 m2 : ℕ) (a : Option ℕ) (P : Disk Text → Option ℕ → Type 0) (sees : Sees {E = StoreFault} s0 s1 (Ok a) P) (k1 : Counts {E = StoreFault} one s0 m0 m1 (Ok a)) where
    pub second_failed : {T : Type 0} (x y : StoreFault) → Counts {T = Option ℕ} {E = StoreFault} two s1 m1 m2 (Err x) → Counts {T = T} all s0 m0 m2 (Err y)
    second_failed x y k = counts_then_err one two all s0 s1 m0 m1 m2 a x y P sees (λ d p. let z = total d in omega (arith, z)) k1 k

    module _ (s2 : Disk Text → Type 0) (m3 : ℕ) (b : Option ℕ) (Q : Disk Text → Option ℕ → Type 0) (sees_2 : Sees {E = StoreFault} s1 s2 (Ok b) Q) (k2 : Counts {E = StoreFault} two s1 m1 m2 (Ok b)) where
      stay_2 : Stays s0 s2
      stay_2 = stays_then s0 s1 s2 (stays_by s0 s1 (Ok a) P sees) (stays_by s1 s2 (Ok b) Q sees_2)

      read_2 : Counts {E = StoreFault} (λ d. one d + two d) s0 m0 m2 (Ok b)
      read_2 = counts_then_ok one two (λ d. one d + two d) s0 s1 m0 m1 m2 a b b P sees (λ d p. refl) k1 k2

      pub third_failed : {T : Type 0} (x y : StoreFault) → Counts {T = Unit {0}} {E = StoreFault} three s2 m2 m3 (Err x) → Counts {T = T} all s0 m0 m3 (Err y)
      third_failed x y k = stays_err (λ d. one d + two d) three all s0 s2 m0 m2 m3 b x y stay_2 (λ d. let z = total d in omega (arith, z)) read_2 k

      module _ (s3 : Disk Text → Type 0) (m4 : ℕ) (u : Unit {0}) (R : Disk Text → Unit {0} → Type 0) (sees_3 : Sees {E = StoreFault} s2 s3 (Ok u) R) (k3 : Counts {E = StoreFault} three s2 m2 m3 (Ok u)) where
        stay_3 : Stays s0 s3
        stay_3 = stays_then s0 s2 s3 stay_2 (stays_by s2 s3 (Ok u) R sees_3)

        read_3 : Counts {E = StoreFault} (λ d. one d + two d + three d) s0 m0 m3 (Ok u)
        read_3 = stays_ok (λ d. one d + two d) three (λ d. one d + two d + three d) s0 s2 m0 m2 m3 b u u stay_2 (λ d. refl) read_2 k3

        pub fourth_failed : {T : Type 0} (x y : StoreFault) → Counts {T = Unit {0}} {E = StoreFault} four s3 m3 m4 (Err x) → Counts {T = T} all s0 m0 m4 (Err y)
        fourth_failed x y k = stays_err (λ d. one d + two d + three d) four all s0 s3 m0 m3 m4 u x y stay_3 (λ d. let z = total d in omega (arith, z)) read_3 k

        pub all_done : {T : Type 0} (v : Unit {0}) (y : T) → Counts {E = StoreFault} four s3 m3 m4 (Ok v) → Counts {E = StoreFault} all s0 m0 m4 (Ok y)
        all_done v y k = stays_ok (λ d. one d + two d + three d) four all s0 s3 m0 m3 m4 u v y stay_3 (λ d. let z = total d in omega (arith, z)) read_3 k

-- a folder is listed, and its files are read
pub list_failed : {T : Type 0} (s0 : Disk Text → Type 0) (m0 m1 : ℕ) (y : StoreFault) → m1 ≡ one_more m0 → Counts {T = T} (λ d. look_count (folder d).read) s0 m0 m1 (Err y)
list_failed s0 m0 m1 y e = counts_err (λ d. 1) _ s0 m0 m1 y y (λ d. omega arith) (counts_one {T = Unit {0}} s0 m0 m1 (Err y) e)

module _ (s0 s1 : Disk Text → Type 0) (m0 m1 m2 : ℕ) where
  module _ (l : FolderList) (sees : Sees {E = StoreFault} s0 s1 (Ok l) (λ d x. IsListed x (folder d))) (e : m1 ≡ one_more m0) where
    pub reads_failed : {S T : Type 0} (x y : StoreFault) → Counts {T = S} {E = StoreFault} (λ d. list_count l (folder d).read) s1 m1 m2 (Err x) → Counts {T = T} (λ d. look_count (folder d).read) s0 m0 m2 (Err y)
    reads_failed x y k = counts_then_err (λ d. 1) (λ d. list_count l (folder d).read) _ s0 s1 m0 m1 m2 l x y _ sees (λ d p. let z = list_is l (folder d) p in omega (arith, z)) (counts_one {E = StoreFault} s0 m0 m1 (Ok l) e) k

    pub reads_done : {S T : Type 0} (v : S) (y : T) → Counts {E = StoreFault} (λ d. list_count l (folder d).read) s1 m1 m2 (Ok v) → Counts {E = StoreFault} (λ d. look_count (folder d).read) s0 m0 m2 (Ok y)
    reads_done v y k = counts_then_ok (λ d. 1) (λ d. list_count l (folder d).read) _ s0 s1 m0 m1 m2 l v y _ sees (λ d p. let z = list_is l (folder d) p in omega (arith, z)) (counts_one {E = StoreFault} s0 m0 m1 (Ok l) e) k

-- ---- what is synced and repaired

segments_many : (n : ℕ) (g : NodeFiles) → length (segment_numbers n g) ≡ segments_there n g
unfolding segment_numbers segments_there
segments_many zero g = refl
segments_many (suc n) g = length-append (segment_numbers n g) (cond (g (Segment n)).there (n ∷ []) []) ∙ (λ i. segments_many n g i + last (g (Segment n)).there i)
  where
    last : (b : Bool) → length (cond b (n ∷ []) []) ≡ cond b 1 0
    last true = refl
    last false = refl

snapshots_many : (n : ℕ) (g : NodeFiles) → length (snapshot_numbers n g) ≡ snapshots_there n g
unfolding snapshot_numbers snapshots_there
snapshots_many zero g = refl
snapshots_many (suc n) g = length-append (snapshot_numbers n g) (cond (g (Snapshot n)).there (n ∷ []) []) ∙ (λ i. snapshots_many n g i + last (g (Snapshot n)).there i)
  where
    last : (b : Bool) → length (cond b (n ∷ []) []) ≡ cond b 1 0
    last true = refl
    last false = refl

files_are : (l : FolderList) (d : NodeDisk) → IsListed l d → length l.files ≡ files_there d.read
files_are l d listed =
    listed.count ∙ (λ i.
    cond (sym (listed.there First (omega arith)) i) 1 0
    + (cond (sym (listed.there Second (omega arith)) i) 1 0
    + ((ap length listed.segments ∙ segments_many 10000000000000000 d.read) i + (ap length listed.snapshots ∙ snapshots_many 10000000000000000 d.read) i)))

settles_as : (l : FolderList) (r : FilesRead) (first second : Option ℕ) (d : NodeDisk) → IsListed l d → ReadsAll d r first second → settling_count l r ≡ settle_count d.read
settles_as l r first second d listed all = λ i.
    suc (files_are l d listed i)
    + (repair_count (all.segments.last i) + cond (is_stale (all.snap i) (all.segments.log i)) 5 0)

-- the calls that empty a log, if the snapshot drops it whole
abbrev pub stale_count : Bool → ℕ
stale_count b = cond b 5 0

pub settling_is : (l : FolderList) (r : FilesRead) (last : Option LastSegment) → last ≡ r.segments.last → settling_count l r ≡ (suc (length l.files) + repair_count last) + cond (is_stale r.snap r.segments.log) 5 0
settling_is l r last e =
    let z : repair_count last ≡ repair_count r.segments.last = ap repair_count e in
    omega (arith, z)

-- ---- a whole load

abbrev Sizes : Type 0
Sizes = Option ℕ × Option ℕ

-- what was read of a folder
abbrev Shown : FilesRead → Disk Text → FolderList × Sizes → Type 0
Shown r d x = IsListed x.0 (folder d) × (IsPlain (folder d) → ReadsAll (folder d) r x.1.0 x.1.1)

plain : (d : NodeDisk) → IsSeen d → IsPlain d
plain d seen n none = (seen.each n).empty none

module _ (s : Disk Text → Type 0) (made now : ℕ) where
  pub load_unread : {S T E F : Type 0} (x : E) (y : F) → Counts {T = S} {E = E} (λ d. look_count (folder d).read) s made now (Err x) → LoadCounts {T = T} s made now (Err y)
  load_unread x y k = record { each = λ d b seen. within_err (look_count (folder d).read) (load_count (folder d).read) made now x y (omega arith) (k.each d b) }

  pub load_refused : {S T E F : Type 0} (x : S) (y : F) → Counts {T = S} {E = E} (λ d. look_count (folder d).read) s made now (Ok x) → LoadCounts {T = T} s made now (Err y)
  load_refused x y k = record { each = λ d b seen. within_ok (look_count (folder d).read) (load_count (folder d).read) made now x y (omega arith) (k.each d b) }

module _ (s t : Disk Text → Type 0) (made mid now : ℕ) (r : FilesRead) (x : FolderList × Sizes) (sees : Sees {E = StoreFault} s t (Ok x) (Shown r)) (read : Counts {E = StoreFault} (λ d. look_count (folder d).read) s made mid (Ok x)) where
  settled : (d : Disk Text) → s d → IsSeen (folder d) → settling_count x.0 r ≡ settle_count (folder d).read
  settled d b seen = let z = (sees.each d b).1 in settles_as x.0 r x.1.0 x.1.1 (folder d) z.0 (z.1 (plain (folder d) seen))

  pub load_failed : {S T E F : Type 0} (e : E) (y : F) → MakesCalls {T = S} {E = E} (settling_count x.0 r) mid now (Err e) → LoadCounts {T = T} s made now (Err y)
  load_failed e y k = record {
    each = λ d b seen.
        let z = settled d b seen in
        then_err (look_count (folder d).read) (settling_count x.0 r) (load_count (folder d).read) made mid now x e y (omega (arith, z)) (read.each d b) k;
  }

  pub load_done : {S T E F : Type 0} (v : S) (y : T) → MakesCalls {T = S} {E = E} (settling_count x.0 r) mid now (Ok v) → LoadCounts {E = F} s made now (Ok y)
  load_done v y k = record {
    each = λ d b seen.
        let z = settled d b seen in
        then_ok (look_count (folder d).read) (settling_count x.0 r) (load_count (folder d).read) made mid now x v y (omega (arith, z)) (read.each d b) k;
  }
