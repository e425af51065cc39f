-- Older segments go one by one.
use Rattle.std.proofs.Common.{◌≡◌, ◌⊎◌, inl, inr, ℕ, zero, suc, ◌+◌, ◌≤◌, ◌<◌, true, false, List, [], ◌∷◌, refl, sym, ap, ◌∙◌, subst, arith, cond}
use Rattle.std.specs.Prelude.{nat_lt}
use Rattle.std.proofs.lemmas.Bool.{cases_Bool, cases_eq, cases_lt, cond-true, cond-false, ltb-true, ltb-false}
use Rattle.store_laws.specs.Names.{Name, First, Second, Segment, Snapshot, NodeFiles, NodeDisk, NodeCall}
use Rattle.disk_model.specs.Disk.{Found, missing, Held, LeavesFile, Leaves, Absent}
use Rattle.store_laws.specs.Store.{Snap, snap_in, newest_snap, Format, kept, is_whole}
use Rattle.disk_model.specs.Calls.{Remove, SyncNames, Done, Until, Does, NamesSynced, after_remove, after_names}
use Rattle.disk_model.specs.Rest.{Rest}
use Rattle.store_laws.specs.Load.{Still, tail_of, remove_from, RemoveOlder}
use Rattle.disk_model.proofs.Rests.{rest_only, rest_left, synced_or_not, same_found}
use Rattle.disk_model.proofs.Elsewhere.{Elsewhere, else_same, else_on, else_names}
use Rattle.store_laws.proofs.Answers.{segments_same, meta_same, kept_same}

data GoneStage (H : List ℕ) (k : Held) : Type 0 where
  old : k.since ≡ [] → k.bytes ≡ H → GoneStage H k
  absent : k ≡ record { standing = Absent; bytes = []; since = [] } → GoneStage H k

-- one file goes
module _ (n : Name) (d : NodeDisk) (rest : Rest (d.held n) (d.read n)) (there : (d.read n).there ≡ true) where
  record GoneMoment (e : NodeDisk) : Type 0 where
    elsewhere : Elsewhere n d e
    stage : GoneStage (d.read n).bytes (e.held n)

  record GoneEnd (e : NodeDisk) : Type 0 where
    elsewhere : Elsewhere n d e
    held : e.held n ≡ record { standing = Absent; bytes = []; since = [] }
    read : e.read n ≡ missing

  begun : (h : Held) → h ≡ cond (d.read n).there (after_remove (d.held n)) (d.held n) → GoneStage (d.read n).bytes h
  begun h e =
      let q = e ∙ cond-true _ _ _ there in
      old (ap (λ (x : Held). x.since) q ∙ rest.since) (ap (λ (x : Held). x.bytes) q ∙ rest.bytes)

  removed : (m : NodeDisk) → Does (Remove n) d m → GoneMoment m
  removed m c = record { elsewhere = else_on n d d m (else_same n d) c.others; stage = begun _ c.held }

  gone : (m e : NodeDisk) → Does (Remove n) d m → NamesSynced m e → GoneEnd e
  gone m e c o = record { elsewhere = else_names n d m e (removed m c).elsewhere o; held = o.held n ∙ ap (λ (x : Found). after_names x (m.held n)) c.read; read = o.read n ∙ c.read }

  to : (m e : NodeDisk) → e ≡ m → GoneMoment m → GoneMoment e
  to m e q at = subst GoneMoment (sym q) at

  start : GoneMoment d
  start = record { elsewhere = else_same n d; stage = old rest.since rest.bytes }

  reads : (e : NodeDisk) → GoneMoment e → (x : Found) → LeavesFile (e.held n) x → (x ≡ d.read n) ⊎ (x ≡ missing)
  reads e m x left = elim m.stage [
    | old z b ↦ elim (synced_or_not _ x z left) [
      | inl y ↦ inr y
      | inr y ↦ inl (y ∙ same_found _ _ (sym there) b)
    ]
    | absent q ↦
        let l = subst (λ (h : Held). LeavesFile h x) q left in
        let t = l.absent refl in
        inr (same_found x missing t (l.empty t))
  ]

  -- some moment of the two calls, or later
  split : (rest_calls : List NodeCall) (e : NodeDisk) → Until (Remove n ∷ SyncNames ∷ rest_calls) d e → GoneMoment e ⊎ ((p : NodeDisk) × (GoneEnd p × Until rest_calls p e))
  split cs e u = elim u [
    | inl q ↦ inl (to d e q start)
    | inr (inl broke) ↦ inl (record { elsewhere = else_on n d d e (else_same n d) broke.others; stage = begun _ broke.held })
    | inr (inr (m, (c, inl q))) ↦ inl (to m e q (removed m c))
    | inr (inr (m, (c, inr (inl q)))) ↦ inl (to m e q (removed m c))
    | inr (inr (m, (c, inr (inr (p, (o, v)))))) ↦ inr (p, (gone m p c o, v))
  ]

lt_is : (j m : ℕ) → j < m → nat_lt j m ≡ true
lt_is j m h = elim (cases_Bool (nat_lt j m)) [ inl t ↦ t | inr t ↦ let l : m ≤ j = ltb-false _ _ t in absurd (omega arith) ]

lt_not : (j m : ℕ) → m ≤ j → nat_lt j m ≡ false
lt_not j m h = elim (cases_Bool (nat_lt j m)) [ inl t ↦ let l : j < m = ltb-true _ _ t in absurd (omega arith) | inr t ↦ t ]

pub low : (r : NodeFiles) (m j : ℕ) → j < m → tail_of r m (Segment j) ≡ missing
low r m j h = cond-true _ _ _ (lt_is j m h)

pub high : (r : NodeFiles) (m j : ℕ) → m ≤ j → tail_of r m (Segment j) ≡ r (Segment j)
high r m j h = cond-false _ _ _ (lt_not j m h)

-- one segment more is gone
next_tail : (r g : NodeFiles) (a : ℕ) → g (Segment a) ≡ missing → ((n : Name) → (n ≡ Segment a → ⊥) → g n ≡ tail_of r a n) → (n : Name) → g n ≡ tail_of r (suc a) n
next_tail r g a here else First = else First (λ q. absurd cc)
next_tail r g a here else Second = else Second (λ q. absurd cc)
next_tail r g a here else (Snapshot j) = else (Snapshot j) (λ q. absurd cc)
next_tail r g a here else (Segment j) = elim (cases_eq j a) [
  | inl e ↦ ap (λ (i : ℕ). g (Segment i)) e ∙ here ∙ sym (low r (suc a) j (omega arith))
  | inr ne ↦
      let b = else (Segment j) (λ q. let z : j ≡ a = cc in ne z) in
      elim (cases_lt j a) [
        | inl h ↦ b ∙ low r a j h ∙ sym (low r (suc a) j (omega arith))
        | inr h ↦ b ∙ high r a j h ∙ sym (high r (suc a) j (omega arith))
      ]
]

module _ (f : Format) (k : ℕ) (d : NodeDisk) where
  -- a disk that has come to a tail
  record Cur (a : ℕ) (e : NodeDisk) : Type 0 where
    still : Still f k e
    reads : (n : Name) → e.read n ≡ tail_of d.read a n

  abbrev pub Ends : NodeFiles → Type 0
  Ends g = (m : ℕ) × ((m ≤ k) × (kept f (suc k) g ≡ kept f (suc k) (tail_of d.read m)))

  still_gone : (a : ℕ) → a < k → (e p : NodeDisk) → Still f k e → Elsewhere (Segment a) e p → p.held (Segment a) ≡ record { standing = Absent; bytes = []; since = [] } → p.read (Segment a) ≡ missing → Still f k p
  still_gone a lt e p s so held read =
      let snaps : snap_in f p.read ≡ snap_in f e.read = (λ i. newest_snap f.snap f.numbers (λ j. so.read (Snapshot j) (λ q. absurd cc) i)) in
      let here : Rest (p.held (Segment a)) (p.read (Segment a)) = subst (λ (x : Found). Rest (p.held (Segment a)) x) (sym read) (subst (λ (h : Held). Rest h missing) (sym held) (record { since = refl; bytes = refl; standing = refl; empty = λ y. refl })) in
      record {
        first = so.rest First (λ q. absurd cc) s.first;
        second = so.rest Second (λ q. absurd cc) s.second;
        segment = λ j. elim (cases_eq j a) [
          | inl q ↦ subst (λ (i : ℕ). Rest (p.held (Segment i)) (p.read (Segment i))) (sym q) here
          | inr ne ↦ so.rest (Segment j) (λ q. let z : j ≡ a = cc in ne z) (s.segment j)
        ];
        above = λ j h. ap (λ (x : Found). x.there) (so.read (Segment j) (λ q. let z : j ≡ a = cc in absurd (omega arith))) ∙ s.above j h;
        below = λ j h. elim (cases_eq j a) [
          | inl q ↦ λ t. let z : false ≡ true = sym (ap (λ (i : ℕ). (p.read (Segment i)).there) q ∙ ap (λ (x : Found). x.there) read) ∙ t in absurd cc
          | inr ne ↦ subst (λ (x : Found). x.there ≡ true → is_whole f x.bytes ≡ true) (sym (so.read (Segment j) (λ q. let z : j ≡ a = cc in ne z))) (s.below j h)
        ];
        snap_read = λ j. so.seen (Snapshot j) (λ q. absurd cc) (s.snap_read j);
        snap_rest = λ j h. so.rest (Snapshot j) (λ q. absurd cc) (s.snap_rest j (subst (λ (x : Snap). x.index ≤ j) snaps h));
        snap = λ g left. s.snap g (λ j. so.left (Snapshot j) (λ q. absurd cc) (s.snap_read j) _ (left j)) ∙ sym snaps;
      }

  -- what a crash leaves while segment a goes
  image : (a : ℕ) (e p : NodeDisk) → Cur a e → Elsewhere (Segment a) e p → (g : NodeFiles) → Leaves p g → (m : ℕ) → m ≤ k → ((j : ℕ) → g (Segment j) ≡ tail_of d.read m (Segment j)) → Ends g
  image a e p c so g left m h segs =
      let s = c.still in
      let one : g First ≡ d.read First = rest_only _ _ _ s.first (so.left First (λ q. absurd cc) (rest_left _ _ s.first) _ (left.each First)) ∙ c.reads First in
      let two : g Second ≡ d.read Second = rest_only _ _ _ s.second (so.left Second (λ q. absurd cc) (rest_left _ _ s.second) _ (left.each Second)) ∙ c.reads Second in
      let snaps : snap_in f g ≡ snap_in f d.read = s.snap g (λ j. so.left (Snapshot j) (λ q. absurd cc) (s.snap_read j) _ (left.each (Snapshot j))) ∙ (λ i. newest_snap f.snap f.numbers (λ j. c.reads (Snapshot j) i)) in
      (m, (h, kept_same f (suc k) g (tail_of d.read m) (meta_same f g (tail_of d.read m) one two) snaps (segments_same (suc k) g (tail_of d.read m) (λ j l. segs j))))

  other : (a : ℕ) (e p : NodeDisk) → Cur a e → Elsewhere (Segment a) e p → (g : NodeFiles) → Leaves p g → (j : ℕ) → (j ≡ a → ⊥) → g (Segment j) ≡ tail_of d.read a (Segment j)
  other a e p c so g left j ne =
      let ap1 = λ (q : Segment j ≡ Segment a). let z : j ≡ a = cc in ne z in
      rest_only _ _ _ (c.still.segment j) (so.left (Segment j) ap1 (rest_left _ _ (c.still.segment j)) _ (left.each (Segment j))) ∙ c.reads (Segment j)

  stays : (a : ℕ) (e p : NodeDisk) → a < k → Cur a e → Elsewhere (Segment a) e p → (g : NodeFiles) → Leaves p g → (g (Segment a) ≡ e.read (Segment a)) ⊎ (g (Segment a) ≡ missing) → Ends g
  stays a e p lt c so g left here = elim here [
    | inl y ↦ image a e p c so g left a (omega arith) (λ j. elim (cases_eq j a) [
      | inl q ↦ subst (λ (i : ℕ). g (Segment i) ≡ tail_of d.read a (Segment i)) (sym q) (y ∙ c.reads (Segment a))
      | inr ne ↦ other a e p c so g left j ne
    ])
    | inr y ↦ image a e p c so g left (suc a) (omega arith) (λ j. elim (cases_eq j a) [
      | inl q ↦ subst (λ (i : ℕ). g (Segment i) ≡ tail_of d.read (suc a) (Segment i)) (sym q) (y ∙ sym (low d.read (suc a) a (omega arith)))
      | inr ne ↦ other a e p c so g left j ne ∙ elim (cases_lt j a) [
        | inl h ↦ low d.read a j h ∙ sym (low d.read (suc a) j (omega arith))
        | inr h ↦ high d.read a j h ∙ sym (high d.read (suc a) j (omega arith))
      ]
    ])
  ]

  cur_next : (a : ℕ) (e p : NodeDisk) → a < k → Cur a e → Elsewhere (Segment a) e p → p.held (Segment a) ≡ record { standing = Absent; bytes = []; since = [] } → p.read (Segment a) ≡ missing → Cur (suc a) p
  cur_next a e p lt c so held read = record {
    still = still_gone a lt e p c.still so held read;
    reads = next_tail d.read p.read a read (λ n ne. so.read n ne ∙ c.reads n);
  }

  -- a segment that isn't there
  cur_skip : (a : ℕ) (e : NodeDisk) → Cur a e → (d.read (Segment a)).there ≡ false → Cur (suc a) e
  cur_skip a e c no_one =
      let q : e.read (Segment a) ≡ d.read (Segment a) = c.reads (Segment a) ∙ high d.read a a (omega arith) in
      let t : (e.read (Segment a)).there ≡ false = ap (λ (x : Found). x.there) q ∙ no_one in
      record { still = c.still; reads = next_tail d.read e.read a (same_found _ missing t ((c.still.segment a).empty t)) (λ n ne. c.reads n) }

  there_too : (a : ℕ) (e : NodeDisk) → Cur a e → (d.read (Segment a)).there ≡ true → (e.read (Segment a)).there ≡ true
  there_too a e c t = ap (λ (x : Found). x.there) (c.reads (Segment a) ∙ high d.read a a (omega arith)) ∙ t

  any : (n a : ℕ) (e : NodeDisk) → a + n ≡ k → Cur a e → (x : NodeDisk) → Until (remove_from d.read a n) e x → (g : NodeFiles) → Leaves x g → Ends g
  any zero a e sum c x u g left =
      let l : Leaves e g = subst (λ (z : NodeDisk). Leaves z g) u left in
      image a e e c (else_same (Segment a) e) g l a (omega arith) (λ j. rest_only _ _ _ (c.still.segment j) (l.each (Segment j)) ∙ c.reads (Segment j))
  any (suc n) a e sum c x u g left = elim (cases_Bool (d.read (Segment a)).there) [
    | inr t ↦ any n (suc a) e (omega arith) (cur_skip a e c t) x (subst (λ (cs : List NodeCall). Until cs e x) (cond-false _ _ _ t) u) g left
    | inl t ↦
        let v = subst (λ (cs : List NodeCall). Until cs e x) (cond-true _ _ _ t) u in
        let th = there_too a e c t in
        elim (split (Segment a) e (c.still.segment a) th (remove_from d.read (suc a) n) x v) [
          | inl m ↦ stays a e x (omega arith) c m.elsewhere g left (reads (Segment a) e (c.still.segment a) th x m (g (Segment a)) (left.each (Segment a)))
          | inr (p, (z, w)) ↦ any n (suc a) p (omega arith) (cur_next a e p (omega arith) c z.elsewhere z.held z.read) x w g left
        ]
  ]

  all : (n a : ℕ) (e : NodeDisk) → a + n ≡ k → Cur a e → (x : NodeDisk) → Done (remove_from d.read a n) e x → Cur k x
  all zero a e sum c x u = let z : a ≡ k = omega arith in subst (Cur k) (sym u) (subst (λ (i : ℕ). Cur i e) z c)
  all (suc n) a e sum c x u = elim (cases_Bool (d.read (Segment a)).there) [
    | inr t ↦ all n (suc a) e (omega arith) (cur_skip a e c t) x (subst (λ (cs : List NodeCall). Done cs e x) (cond-false _ _ _ t) u)
    | inl t ↦
        let v = subst (λ (cs : List NodeCall). Done cs e x) (cond-true _ _ _ t) u in
        let th = there_too a e c t in
        let m = v.0 in let p = v.1.1.0 in
        let z = gone (Segment a) e (c.still.segment a) th m p v.1.0 v.1.1.1.0 in
        all n (suc a) p (omega arith) (cur_next a e p (omega arith) c z.elsewhere z.held z.read) x v.1.1.1.1
  ]

  begins : Still f k d → Cur 0 d
  begins s = record { still = s; reads = λ n. elim n as (λ n. d.read n ≡ tail_of d.read 0 n) [ First ↦ refl | Second ↦ refl | Segment j ↦ sym (high d.read 0 j (omega arith)) | Snapshot j ↦ refl ] }

  pub older : Still f k d
      → ((e : NodeDisk) → Until (remove_from d.read 0 k) d e → (g : NodeFiles) → Leaves e g → (m : ℕ) × ((m ≤ k) × (kept f (suc k) g ≡ kept f (suc k) (tail_of d.read m))))
      × ((e : NodeDisk) → Done (remove_from d.read 0 k) d e → Still f k e × ((n : Name) → e.read n ≡ tail_of d.read k n))
  older s = (
    λ e u g left. any k 0 d (omega arith) (begins s) e u g left,
    λ e u. let c = all k 0 d (omega arith) (begins s) e u in (c.still, c.reads),
  )

pub remove_older_holds : RemoveOlder
remove_older_holds f k d s = older f k d s
