-- What is in the files once a snapshot is kept.
use Rattle.std.proofs.Common.{◌≡◌, inl, inr, ℕ, zero, suc, ◌+◌, ◌<◌, ◌≤◌, Bool, true, false, cond, List, [], ◌∷◌, ◌++◌, length, refl, sym, ap, ◌∙◌, subst, arith}
use Rattle.std.specs.Prelude.{◌==◌, ◌||◌, ◌&&◌, nat_lt}
use Rattle.std.specs.List.{filter}
use Rattle.std.proofs.lemmas.Bool.{cases_eq, cases_lt, ne_eqb, eq-eqb, lt-ltb, le-ltb, ltb-true}
use Rattle.disk_model.specs.Disk.{Found, found}
use Rattle.disk_model.specs.Calls.{WriteAt, CutTo, Sync, Remove, SyncNames, Done, put}
use Rattle.disk_model.specs.Writing.{replace_calls}
use Rattle.disk_model.proofs.Bytes.{put_end}
use Rattle.disk_model.proofs.Untils.{done_append}
use Rattle.store_laws.specs.Names.{Name, First, Second, Segment, Snapshot, NodeFiles, NodeDisk, NodeCall}
use Rattle.store_laws.specs.Append.{append_calls}
use Rattle.store_laws.specs.Load.{remove_from}
use Rattle.store_laws.specs.Snapshots.{snapshot_calls, remove_snapshots, keep_calls, AllBelow}
use Rattle.segment_store.specs.Open.{is_listed, segment_numbers, HasSnapshots}
use Rattle.segment_store.specs.Keeping.{older_than, later_than}
use Rattle.segment_store.proofs.Listing.{numbers_more, numbers_same}

-- ---- a file that no call is about

abbrev Untouched : Name → List NodeCall → Type 0
Untouched n [] = Unit {0}
Untouched n (WriteAt m at bytes ∷ cs) = (n ≡ m → ⊥) × Untouched n cs
Untouched n (CutTo m k ∷ cs) = (n ≡ m → ⊥) × Untouched n cs
Untouched n (Sync m ∷ cs) = (n ≡ m → ⊥) × Untouched n cs
Untouched n (Remove m ∷ cs) = (n ≡ m → ⊥) × Untouched n cs
Untouched n (SyncNames ∷ cs) = Untouched n cs

as_was : (n : Name) (cs : List NodeCall) (d e : NodeDisk) → Untouched n cs → Done cs d e → e.read n ≡ d.read n
as_was n [] d e u q = ap (λ (x : NodeDisk). x.read n) q
as_was n (WriteAt m at bytes ∷ cs) d e u (p, (did, rest)) = as_was n cs p e u.1 rest ∙ did.others.read n u.0
as_was n (CutTo m k ∷ cs) d e u (p, (did, rest)) = as_was n cs p e u.1 rest ∙ did.others.read n u.0
as_was n (Sync m ∷ cs) d e u (p, (did, rest)) = as_was n cs p e u.1 rest ∙ did.others.read n u.0
as_was n (Remove m ∷ cs) d e u (p, (did, rest)) = as_was n cs p e u.1 rest ∙ did.others.read n u.0
as_was n (SyncNames ∷ cs) d e u (p, (did, rest)) = as_was n cs p e u rest ∙ did.read n

file_apart : (n : Name) (index : ℕ) (b : Bool) (bytes : List ℕ) → (n ≡ Snapshot index → ⊥) → Untouched n (snapshot_calls (Snapshot index) b bytes)
file_apart n index true bytes a = (a, (a, (a, tt)))
file_apart n index false bytes a = (a, (a, tt))

segment_apart : (n : Name) (k : ℕ) (word batch : List ℕ) → (n ≡ Segment k → ⊥) → Untouched n (append_calls k false 0 word batch)
segment_apart n k word batch a = (a, (a, (a, (a, tt))))

removals_apart : (n : Name) (r : NodeFiles) (a m : ℕ) → ((j : ℕ) → a ≤ j → j < a + m → n ≡ Segment j → ⊥) → Untouched n (remove_from r a m)
removals_apart n r a zero apart = tt
removals_apart n r a (suc m) apart = either (r (Segment a)).there (removals_apart n r (suc a) m (λ j l h. apart j (omega (arith, l)) (omega (arith, h))))
  where
    either : (b : Bool) → Untouched n (remove_from r (suc a) m) → Untouched n (cond b (Remove (Segment a) ∷ SyncNames ∷ remove_from r (suc a) m) (remove_from r (suc a) m))
    either true rest = (apart a (omega arith) (omega arith), rest)
    either false rest = rest

older_apart : (n : Name) (js : List ℕ) → ((j : ℕ) → n ≡ Snapshot j → ⊥) → Untouched n (remove_snapshots js)
older_apart n [] apart = tt
older_apart n (j ∷ js) apart = (apart j, older_apart n js apart)

newer_apart : (index : ℕ) (js : List ℕ) → AllBelow index js → Untouched (Snapshot index) (remove_snapshots js)
newer_apart index [] low = tt
newer_apart index (j ∷ js) low = (λ q. let z : index ≡ j = cc in absurd (omega (arith, z, low.0)), newer_apart index js low.1)

-- ---- files that are written

-- a segment with its word and a batch
begun : (k : ℕ) (word batch : List ℕ) (d e : NodeDisk) → (d.read (Segment k)).bytes ≡ [] → Done (append_calls k false 0 word batch) d e → e.read (Segment k) ≡ found (word ++ batch)
begun k word batch d e none (a, (w, (b, (y, (c, (o, (m, (v, (p, (z, q)))))))))) =
    let word_is : c.read (Segment k) ≡ found word = o.read (Segment k) ∙ y.read ∙ w.read ∙ ap (λ (x : List ℕ). found (put 0 word x)) none ∙ ap found (put_end word []) in
    ap (λ (x : NodeDisk). x.read (Segment k)) q ∙ z.read ∙ v.read ∙ ap (λ (x : Found). found (put (length word) batch x.bytes)) word_is ∙ ap found (put_end batch word)

-- a snapshot's file is there
there_then : (n : Name) (bytes : List ℕ) (d e : NodeDisk) → Done (replace_calls n bytes false) d e → (e.read n).there ≡ true
there_then n bytes d e (a, (w, (b, (y, (c, (o, q)))))) = ap (λ (x : Found). x.there) (ap (λ (x : NodeDisk). x.read n) q ∙ o.read n ∙ y.read ∙ w.read)

file_there : (n : Name) (b : Bool) (bytes : List ℕ) (d e : NodeDisk) → Done (snapshot_calls n b bytes) d e → (e.read n).there ≡ true
file_there n true bytes d e (m, (cut, rest)) = there_then n bytes m e rest
file_there n false bytes d e done = there_then n bytes d e done

-- ---- files that go

abbrev Agree : NodeFiles → ℕ → ℕ → NodeDisk → Type 0
Agree r a m d = (j : ℕ) → a ≤ j → j < a + m → (d.read (Segment j)).there ≡ (r (Segment j)).there

-- what holds of a segment after the first one, once that one is dealt with
abbrev Later : NodeFiles → ℕ → ℕ → NodeDisk → ℕ → Type 0
Later r a m e j = (p : NodeDisk) → Agree r (suc a) m p → Done (remove_from r (suc a) m) p e → suc a ≤ j → (e.read (Segment j)).there ≡ false

first_gone : (r : NodeFiles) (a m : ℕ) (e : NodeDisk) (j : ℕ) → a ≤ j → Later r a m e j → (p : NodeDisk) → (p.read (Segment a)).there ≡ false → Agree r (suc a) m p → Done (remove_from r (suc a) m) p e → (e.read (Segment j)).there ≡ false
first_gone r a m e j low later p none agree last = elim (cases_eq j a) [
  | inl q ↦
      let stood : e.read (Segment a) ≡ p.read (Segment a) = as_was (Segment a) (remove_from r (suc a) m) p e (removals_apart (Segment a) r (suc a) m (λ i l h q. let z : a ≡ i = cc in absurd (omega (arith, z, l)))) last in
      subst (λ (i : ℕ). (e.read (Segment i)).there ≡ false) (sym q) (ap (λ (x : Found). x.there) stood ∙ none)
  | inr ne ↦ later p agree last (omega arith)
]

gone_from : (r : NodeFiles) (a m : ℕ) (d e : NodeDisk) → Agree r a m d → Done (remove_from r a m) d e → (j : ℕ) → a ≤ j → j < a + m → (e.read (Segment j)).there ≡ false
gone_from r a zero d e same done j low high = absurd (omega (arith, low, high))
gone_from r a (suc m) d e same done j low high =
    either (λ p agree last h. gone_from r (suc a) m p e agree last j h (omega (arith, high))) (r (Segment a)).there refl done
  where
    either : Later r a m e j → (b : Bool) → (r (Segment a)).there ≡ b → Done (cond b (Remove (Segment a) ∷ SyncNames ∷ remove_from r (suc a) m) (remove_from r (suc a) m)) d e → (e.read (Segment j)).there ≡ false
    either later false t v = first_gone r a m e j low later d (same a (omega arith) (omega arith) ∙ t) (λ i l h. same i (omega (arith, l)) (omega (arith, h))) v
    either later true t (p, (removed, (s, (o, v)))) =
        first_gone r a m e j low later s (ap (λ (x : Found). x.there) (o.read (Segment a) ∙ removed.read))
        (λ i l h. ap (λ (x : Found). x.there) (o.read (Segment i) ∙ removed.others.read (Segment i) (λ q. let z : i ≡ a = cc in absurd (omega (arith, z, l)))) ∙ same i (omega (arith, l)) (omega (arith, h))) v

both_false : (b : Bool) → cond b false false ≡ false
both_false true = refl
both_false false = refl

older_gone : (j : ℕ) (js : List ℕ) (d e : NodeDisk) → Done (remove_snapshots js) d e → (e.read (Snapshot j)).there ≡ cond (is_listed j js) false (d.read (Snapshot j)).there
older_gone j [] d e q = ap (λ (x : NodeDisk). (x.read (Snapshot j)).there) q
older_gone j (i ∷ is) d e (p, (did, rest)) =
    let now = (d.read (Snapshot j)).there in
    let later : (e.read (Snapshot j)).there ≡ cond (is_listed j is) false (p.read (Snapshot j)).there = older_gone j is p e rest in
    elim (cases_eq i j) [
      | inl q ↦
          let none : (p.read (Snapshot j)).there ≡ false = subst (λ (n : ℕ). (p.read (Snapshot n)).there ≡ false) q (ap (λ (x : Found). x.there) did.read) in
          later ∙ ap (cond (is_listed j is) false) none ∙ both_false (is_listed j is) ∙ sym (ap (λ (b : Bool). cond (b || is_listed j is) false now) (eq-eqb i j q))
      | inr ne ↦
          let stood : p.read (Snapshot j) ≡ d.read (Snapshot j) = did.others.read (Snapshot j) (λ q. let z : i ≡ j = cc in ne z) in
          later ∙ ap (λ (x : Found). cond (is_listed j is) false x.there) stood ∙ sym (ap (λ (b : Bool). cond (b || is_listed j is) false now) (ne_eqb i j ne))
    ]

-- ---- what is listed

and_false : (b : Bool) → (b && false) ≡ false
and_false true = refl
and_false false = refl

-- those that pass a test
listed_passing : (test : ℕ → Bool) (j : ℕ) (js : List ℕ) → is_listed j (filter test js) ≡ (is_listed j js && test j)
listed_passing test j [] = refl
listed_passing test j (i ∷ is) = elim (cases_eq i j) [
  | inl q ↦ here (eq-eqb i j q) (test i) (test j) (ap test q) (listed_passing test j is)
  | inr ne ↦ other (ne_eqb i j ne) (test i) (listed_passing test j is)
]
  where
    here : (i == j) ≡ true → (a b : Bool) → a ≡ b → is_listed j (filter test is) ≡ (is_listed j is && b) → is_listed j (cond a (i ∷ filter test is) (filter test is)) ≡ (((i == j) || is_listed j is) && b)
    here w true b e rest = ap (λ (x : Bool). x || is_listed j (filter test is)) w ∙ e ∙ sym (ap (λ (x : Bool). (x || is_listed j is) && b) w)
    here w false b e rest = rest ∙ ap (λ (x : Bool). is_listed j is && x) (sym e) ∙ and_false (is_listed j is) ∙ e ∙ sym (ap (λ (x : Bool). (x || is_listed j is) && b) w)

    other : (i == j) ≡ false → (a : Bool) → is_listed j (filter test is) ≡ (is_listed j is && test j) → is_listed j (cond a (i ∷ filter test is) (filter test is)) ≡ (((i == j) || is_listed j is) && test j)
    other w true rest = ap (λ (x : Bool). x || is_listed j (filter test is)) w ∙ rest ∙ sym (ap (λ (x : Bool). (x || is_listed j is) && test j) w)
    other w false rest = rest ∙ sym (ap (λ (x : Bool). (x || is_listed j is) && test j) w)

pub below_index : (index : ℕ) (js : List ℕ) → AllBelow index (older_than index js)
below_index index [] = tt
below_index index (j ∷ js) = either (nat_lt j index) refl (below_index index js)
  where
    either : (b : Bool) → nat_lt j index ≡ b → AllBelow index (older_than index js) → AllBelow index (cond b (j ∷ older_than index js) (older_than index js))
    either true t rest = (ltb-true _ _ t, rest)
    either false t rest = rest

gone_and_old : (l : Bool) → cond (l && true) false l ≡ (l && false)
gone_and_old true = refl
gone_and_old false = refl

kept_and_new : (l : Bool) → cond (l && false) false l ≡ (l && true)
kept_and_new true = refl
kept_and_new false = refl

-- one file of another snapshot, if the older ones of those that were listed are gone
listed_after : (index j : ℕ) (js : List ℕ) (before now : Bool) → (j ≡ index → ⊥) → before ≡ is_listed j js → now ≡ cond (is_listed j (older_than index js)) false before → now ≡ is_listed j (index ∷ later_than index js)
listed_after index j js before now ne was is =
    let l = is_listed j js in
    let old = λ (b : Bool). cond (l && b) false l in
    let other : (index == j) ≡ false = ne_eqb index j (λ q. ne (sym q)) in
    let new : is_listed j (index ∷ later_than index js) ≡ (l && nat_lt index j) = ap (λ (b : Bool). b || is_listed j (later_than index js)) other ∙ listed_passing (λ (i : ℕ). nat_lt index i) j js in
    let gone : now ≡ old (nat_lt j index) = is ∙ (λ i. cond (listed_passing (λ (n : ℕ). nat_lt n index) j js i) false (was i)) in
    elim (cases_lt j index) [
      | inl low ↦ gone ∙ ap old (lt-ltb j index low) ∙ gone_and_old l ∙ sym (ap (λ (b : Bool). l && b) (le-ltb index j (omega (arith, low)))) ∙ sym new
      | inr high ↦
          let above : index < j = omega arith in
          gone ∙ ap old (le-ltb j index high) ∙ kept_and_new l ∙ sym (ap (λ (b : Bool). l && b) (lt-ltb index j above)) ∙ sym new
    ]

none_numbers : (n : ℕ) (g : NodeFiles) → ((j : ℕ) → j < n → (g (Segment j)).there ≡ false) → segment_numbers n g ≡ []
unfolding segment_numbers
none_numbers zero g none = refl
none_numbers (suc n) g none = numbers_same n g (none n (omega arith)) ∙ none_numbers n g (λ j l. none j (omega (arith, l)))

-- ---- all of it

pub record KeptFiles (k index : ℕ) (word batch : List ℕ) (js : List ℕ) (d e : NodeDisk) : Type 0 where
  pub first : e.read First ≡ d.read First
  pub second : e.read Second ≡ d.read Second
  pub segment : e.read (Segment k) ≡ found (word ++ batch)
  pub segments : segment_numbers (suc k) e.read ≡ k ∷ []
  pub snapshots : HasSnapshots (index ∷ later_than index js) e.read

module _ (k index : ℕ) (bytes word batch : List ℕ) (js : List ℕ) (d e : NodeDisk) (none : (d.read (Segment k)).bytes ≡ []) (listed : HasSnapshots js d.read)
    (done : Done (keep_calls d.read k index bytes word batch (older_than index js)) d e) where
  abbrev file : List NodeCall
  file = snapshot_calls (Snapshot index) (d.read (Snapshot index)).there bytes

  abbrev segment : List NodeCall
  segment = append_calls k false 0 word batch

  abbrev old : List NodeCall
  old = remove_from d.read 0 k

  abbrev older : List NodeCall
  older = remove_snapshots (older_than index js)

  record Stages : Type 0 where
    a : NodeDisk
    b : NodeDisk
    c : NodeDisk
    written : Done file d a
    grown : Done segment a b
    went : Done old b c
    last : Done older c e

  stages : Stages
  stages =
      let x = done_append file (segment ++ (old ++ older)) d e done in
      let y = done_append segment (old ++ older) x.0 e x.1.1 in
      let z = done_append old older y.0 e y.1.1 in
      record { a = x.0; b = y.0; c = z.0; written = x.1.0; grown = y.1.0; went = z.1.0; last = z.1.1 }

  s : Stages
  s = stages

  -- a file of metadata
  meta_stays : (n : Name) → ((j : ℕ) → n ≡ Segment j → ⊥) → ((j : ℕ) → n ≡ Snapshot j → ⊥) → e.read n ≡ d.read n
  meta_stays n no_segment no_snapshot =
      as_was n older s.c e (older_apart n (older_than index js) no_snapshot) s.last
      ∙ as_was n old s.b s.c (removals_apart n d.read 0 k (λ j l h. no_segment j)) s.went
      ∙ as_was n segment s.a s.b (segment_apart n k word batch (no_segment k)) s.grown
      ∙ as_was n file d s.a (file_apart n index (d.read (Snapshot index)).there bytes (no_snapshot index)) s.written

  segment_before : (j : ℕ) → s.a.read (Segment j) ≡ d.read (Segment j)
  segment_before j = as_was (Segment j) file d s.a (file_apart (Segment j) index (d.read (Snapshot index)).there bytes (λ q. absurd cc)) s.written

  segment_after : (j : ℕ) → e.read (Segment j) ≡ s.c.read (Segment j)
  segment_after j = as_was (Segment j) older s.c e (older_apart (Segment j) (older_than index js) (λ i q. absurd cc)) s.last

  new_segment : e.read (Segment k) ≡ found (word ++ batch)
  new_segment =
      segment_after k
      ∙ as_was (Segment k) old s.b s.c (removals_apart (Segment k) d.read 0 k (λ j l h q. let z : k ≡ j = cc in absurd (omega (arith, z, h)))) s.went
      ∙ begun k word batch s.a s.b (ap (λ (x : Found). x.bytes) (segment_before k) ∙ none) s.grown

  old_segment : (j : ℕ) → j < k → (e.read (Segment j)).there ≡ false
  old_segment j h =
      ap (λ (x : Found). x.there) (segment_after j)
      ∙ gone_from d.read 0 k s.b s.c (λ i l m. ap (λ (x : Found). x.there) (as_was (Segment i) segment s.a s.b (segment_apart (Segment i) k word batch (λ q. let z : i ≡ k = cc in absurd (omega (arith, z, m)))) s.grown ∙ segment_before i)) s.went j (omega arith) (omega (arith, h))

  -- the snapshots' files, before the older ones go
  snapshot_between : (j : ℕ) → s.c.read (Snapshot j) ≡ s.a.read (Snapshot j)
  snapshot_between j =
      as_was (Snapshot j) old s.b s.c (removals_apart (Snapshot j) d.read 0 k (λ i l h q. absurd cc)) s.went
      ∙ as_was (Snapshot j) segment s.a s.b (segment_apart (Snapshot j) k word batch (λ q. absurd cc)) s.grown

  new_snapshot : (e.read (Snapshot index)).there ≡ true
  new_snapshot =
      ap (λ (x : Found). x.there) (as_was (Snapshot index) older s.c e (newer_apart index (older_than index js) (below_index index js)) s.last ∙ snapshot_between index)
      ∙ file_there (Snapshot index) (d.read (Snapshot index)).there bytes d s.a s.written

  other_snapshot : (j : ℕ) → (j ≡ index → ⊥) → s.c.read (Snapshot j) ≡ d.read (Snapshot j)
  other_snapshot j ne = snapshot_between j ∙ as_was (Snapshot j) file d s.a (file_apart (Snapshot j) index (d.read (Snapshot index)).there bytes (λ q. let z : j ≡ index = cc in ne z)) s.written

  snapshots_then : HasSnapshots (index ∷ later_than index js) e.read
  snapshots_then j small = elim (cases_eq j index) [
    | inl q ↦ subst (λ (n : ℕ). (e.read (Snapshot n)).there ≡ true) (sym q) new_snapshot ∙ sym (ap (λ (b : Bool). b || is_listed j (later_than index js)) (eq-eqb index j (sym q)))
    | inr ne ↦
        listed_after index j js (d.read (Snapshot j)).there (e.read (Snapshot j)).there ne (listed j small)
        (older_gone j (older_than index js) s.c e s.last ∙ ap (λ (x : Found). cond (is_listed j (older_than index js)) false x.there) (other_snapshot j ne))
  ]

  pub kept_files : KeptFiles k index word batch js d e
  kept_files = record {
    first = meta_stays First (λ j q. absurd cc) (λ j q. absurd cc);
    second = meta_stays Second (λ j q. absurd cc) (λ j q. absurd cc);
    segment = new_segment;
    segments = numbers_more k e.read (ap (λ (x : Found). x.there) new_segment) ∙ ap (λ (ms : List ℕ). ms ++ k ∷ []) (none_numbers k e.read old_segment);
    snapshots = snapshots_then;
  }
