-- A whole load.
use Rattle.std.proofs.Common.{◌≡◌, inl, inr, ℕ, zero, suc, ◌+◌, ◌-◌, ◌≤◌, ◌<◌, Bool, true, false, cond, not, List, [], ◌∷◌, ◌++◌, length, refl, sym, ap, ◌∙◌, subst, arith}
use Rattle.std.specs.Prelude.{◌&&◌, ◌==◌, nat_le, nat_lt}
use Rattle.std.proofs.lemmas.Bool.{cases_Bool, cond-true, cond-false, and_parts, cases_eq, ltb-false, leb-true, le-ltb, le-leb}
use Rattle.std.proofs.lemmas.List.{append-nil}
use Rattle.disk_model.specs.Disk.{Found, Leaves}
use Rattle.disk_model.specs.Calls.{WriteAt, CutTo, Sync, Remove, SyncNames, Others, Done, Until}
use Rattle.disk_model.specs.SyncAll.{sync_all, Names}
use Rattle.disk_model.specs.Rest.{Rest}
use Rattle.disk_model.proofs.Rests.{rest_only, rest_left}
use Rattle.disk_model.proofs.Elsewhere.{Elsewhere, else_same, else_on, else_names}
use Rattle.disk_model.proofs.Syncs.{sync_all_holds}
use Rattle.disk_model.proofs.Untils.{until_append, done_append}
use Rattle.store_laws.specs.Names.{Name, Segment, NodeFiles, NodeDisk, NodeCall}
use Rattle.store_laws.specs.Store.{Format, Snap, Log, Kept, Loaded, kept, answer, meta_of, snap_in, segments, sound, all_batches, log_of, empty_log, behind, nth_term, opens, is_whole}
use Rattle.store_laws.specs.Chance.{NoChance, Lawful}
use Rattle.store_laws.specs.Settled.{Settled, Steady, fits, ends_before, file_log}
use Rattle.store_laws.specs.Append.{append_calls, Writes}
use Rattle.store_laws.specs.Load.{Still, Repairs, repair_calls, Loadable, LoadEnds}
use Rattle.store_laws.specs.Laws.{AnyMoment, AtOk, Comes}
use Rattle.store_laws.specs.WholeLoad.{is_stale, empty_calls, load_calls, WholeLoad, WholeLoadSeen}
use Rattle.store_laws.proofs.Fair.{sync_fair}
use Rattle.store_laws.proofs.Tells.{tell}
use Rattle.store_laws.proofs.Folders.{segments_suc}
use Rattle.store_laws.proofs.Answers.{settled_images}
use Rattle.store_laws.proofs.AppendLaw.{settled_of, empty_stale_holds}
use Rattle.store_laws.proofs.Rooms.{more_room_holds}
use Rattle.store_laws.proofs.Seen.{Allowed, seen, allowed_then, append_allowed, repair_allowed, sync_allowed}
use Rattle.store_laws.proofs.Loads.{repairs, still_at_rest, load_holds}

-- ---- calls on one file

abbrev OnFile : Name → List NodeCall → Type 0
OnFile n [] = Unit {0}
OnFile n (WriteAt j at bytes ∷ cs) = (j ≡ n) × OnFile n cs
OnFile n (CutTo j k ∷ cs) = (j ≡ n) × OnFile n cs
OnFile n (Sync j ∷ cs) = (j ≡ n) × OnFile n cs
OnFile n (Remove j ∷ cs) = (j ≡ n) × OnFile n cs
OnFile n (SyncNames ∷ cs) = OnFile n cs

else_at : (n j : Name) (d m e : NodeDisk) → j ≡ n → Elsewhere n d m → Others j m e → Elsewhere n d e
else_at n j d m e q so o = else_on n d m e so (subst (λ (x : Name). Others x m e) q o)

to : (n : Name) (d m e : NodeDisk) → e ≡ m → Elsewhere n d m → Elsewhere n d e
to n d m e q so = subst (Elsewhere n d) (sym q) so

until_else : (n : Name) (cs : List NodeCall) (d m e : NodeDisk) → OnFile n cs → Elsewhere n d m → Until cs m e → Elsewhere n d e
until_else n [] d m e on so q = to n d m e q so
until_else n (WriteAt j at bytes ∷ cs) d m e on so u = elim u [
  | inl q ↦ to n d m e q so
  | inr (inl broke) ↦ else_at n j d m e on.0 so broke.others
  | inr (inr (p, (did, rest))) ↦ until_else n cs d p e on.1 (else_at n j d m p on.0 so did.others) rest
]
until_else n (CutTo j k ∷ cs) d m e on so u = elim u [
  | inl q ↦ to n d m e q so
  | inr (inl broke) ↦ else_at n j d m e on.0 so broke.others
  | inr (inr (p, (did, rest))) ↦ until_else n cs d p e on.1 (else_at n j d m p on.0 so did.others) rest
]
until_else n (Sync j ∷ cs) d m e on so u = elim u [
  | inl q ↦ to n d m e q so
  | inr (inl q) ↦ to n d m e q so
  | inr (inr (p, (did, rest))) ↦ until_else n cs d p e on.1 (else_at n j d m p on.0 so did.others) rest
]
until_else n (Remove j ∷ cs) d m e on so u = elim u [
  | inl q ↦ to n d m e q so
  | inr (inl broke) ↦ else_at n j d m e on.0 so broke.others
  | inr (inr (p, (did, rest))) ↦ until_else n cs d p e on.1 (else_at n j d m p on.0 so did.others) rest
]
until_else n (SyncNames ∷ cs) d m e on so u = elim u [
  | inl q ↦ to n d m e q so
  | inr (inl q) ↦ to n d m e q so
  | inr (inr (p, (did, rest))) ↦ until_else n cs d p e on (else_names n d m p so did) rest
]

repair_on : (f : Format) (k : ℕ) (x : Found) → OnFile (Segment k) (repair_calls f k x)
unfolding repair_calls
repair_on f k x = which x.there (opens f x.bytes) (is_whole f x.bytes) _
  where
    which : (a b c : Bool) (n : ℕ) → OnFile (Segment k) (cond a (cond b (cond c [] (CutTo (Segment k) n ∷ Sync (Segment k) ∷ [])) (Remove (Segment k) ∷ SyncNames ∷ [])) [])
    which false b c n = tt
    which true false c n = (refl, tt)
    which true true true n = tt
    which true true false n = (refl, (refl, tt))

append_on : (k at : ℕ) (word enc : List ℕ) → OnFile (Segment k) (append_calls k false at word enc)
append_on k at word enc = (refl, (refl, (refl, (refl, tt))))

-- ---- a greater bound on the numbers

room_at : (f : Format) (n : ℕ) (g : NodeFiles) → (g (Segment n)).there ≡ false → segments (suc n) g ≡ segments n g
room_at f n g none = segments_suc n g ∙ ap (λ (b : Bool). segments n g ++ cond b ((g (Segment n)).bytes ∷ []) []) none ∙ append-nil (segments n g)

kept_same_at : (f : Format) (n : ℕ) (g : NodeFiles) → (g (Segment n)).there ≡ false → kept f (suc n) g ≡ kept f n g
unfolding kept
kept_same_at f n g none = λ i. answer (meta_of f g) (snap_in f g) (sound f (room_at f n g none i)) (all_batches f (room_at f n g none i))

log_same_at : (f : Format) (n : ℕ) (g : NodeFiles) → (g (Segment n)).there ≡ false → file_log f (suc n) g ≡ file_log f n g
log_same_at f n g none = ap (λ (l : List (List ℕ)). log_of empty_log (all_batches f l)) (room_at f n g none)

kept_up : (f : Format) (n top : ℕ) (g : NodeFiles) → ((j : ℕ) → n ≤ j → (g (Segment j)).there ≡ false) → n ≤ top → kept f top g ≡ kept f n g
kept_up f n zero g none h = ap (λ (t : ℕ). kept f t g) (omega (arith, h))
kept_up f n (suc top) g none h = elim (cases_eq n (suc top)) [
  | inl e ↦ ap (λ (t : ℕ). kept f t g) (sym e)
  | inr ne ↦ let low : n ≤ top = omega (arith, h, ne) in kept_same_at f top g (none top low) ∙ kept_up f n top g none low
]

-- no crash leaves a segment after the last one of a disk at rest
none_behind : (f : Format) (k : ℕ) (d : NodeDisk) → Still f k d → (e : NodeDisk) → Elsewhere (Segment k) d e → (g : NodeFiles) → Leaves e g → (j : ℕ) → suc k ≤ j → (g (Segment j)).there ≡ false
none_behind f k d s e so g left j h =
    ap (λ (x : Found). x.there) (rest_only _ _ _ (s.segment j) (so.left (Segment j) (λ q. let z : j ≡ k = cc in absurd (omega (arith, z, h))) (rest_left _ _ (s.segment j)) _ (left.each (Segment j))))
    ∙ s.above j (omega (arith, h))

-- ---- a stale log

stale_parts : (s : Snap) (l : Log) → is_stale s l ≡ true → (l.first ≤ s.index) × (behind s l ≡ record { first = suc s.index; entries = [] })
unfolding behind
stale_parts s l e =
    let a = and_parts (nat_le l.first s.index) _ e in
    let b = and_parts (nat_lt s.index (l.first + length l.entries)) _ a.1 in
    let low : l.first ≤ s.index = leb-true _ _ a.0 in
    let other : (nth_term l.entries (s.index - l.first) == s.term) ≡ false = not_false _ b.1 in
    (low, cond-false _ _ _ (le-ltb _ _ low) ∙ (λ i. cond (nat_lt s.index (l.first + length l.entries) && other i) l (record { first = suc s.index; entries = [] })) ∙ dropped (nat_lt s.index (l.first + length l.entries)))
  where
    not_false : (b : Bool) → not b ≡ true → b ≡ false
    not_false true q = absurd cc
    not_false false q = refl

    dropped : (b : Bool) → cond (b && false) l (record { first = suc s.index; entries = [] }) ≡ record { first = suc s.index; entries = [] }
    dropped true = refl
    dropped false = refl

steady_of : (s : Snap) (l : Log) → is_stale s l ≡ false → Steady s l
unfolding behind
steady_of s l e = elim (cases_Bool (nat_lt s.index l.first)) [
  | inl t ↦ fits (cond-true _ _ _ t)
  | inr n ↦
      let low : l.first ≤ s.index = ltb-false _ _ n in
      elim (cases_Bool (nat_lt s.index (l.first + length l.entries))) [
        | inr m ↦ ends_before (ltb-false _ _ m)
        | inl m ↦
            let same : (nth_term l.entries (s.index - l.first) == s.term) ≡ true = is_same _ _ _ (le-leb _ _ low) m e in
            fits (cond-false _ _ _ n ∙ (λ i. cond (m i && same i) l (record { first = suc s.index; entries = [] })))
      ]
]
  where
    is_same : (a b c : Bool) → a ≡ true → b ≡ true → (a && (b && not c)) ≡ false → c ≡ true
    is_same true true true p q r = refl
    is_same true true false p q r = absurd cc
    is_same true false c p q r = absurd cc
    is_same false b c p q r = absurd cc

-- ---- the load

done_join : (cs ds : List NodeCall) (d m e : NodeDisk) → Done cs d m → Done ds m e → Done (cs ++ ds) d e
done_join [] ds d m e q done = subst (λ (x : NodeDisk). Done ds x e) q done
done_join (c ∷ cs) ds d m e (p, (did, rest)) done = (p, (did, done_join cs ds p m e rest done))

module _ (f : Format) (law : Lawful f) (k : ℕ) (d : NodeDisk) (l : Loadable f k d) (ns : List Name) (named : Names d ns) (new : Kept) (is_new : kept f (suc k) d.read ≡ Loaded new) (pos : 0 < (file_log f (suc k) d.read).first) (word enc : List ℕ)
    (w : Writes f (record { first = (file_log f (suc k) d.read).first; entries = [] }) word enc) where
  abbrev rep : List NodeCall
  rep = repair_calls f k (d.read (Segment k))

  up : (top : ℕ) → suc (suc k) ≤ top → kept f top d.read ≡ kept f (suc k) d.read
  up top h = kept_up f (suc k) top d.read (λ j low. l.above j (omega (arith, low))) (omega (arith, h))

  -- the disk once all is synced and repaired
  module _ (p q : NodeDisk) (synced : Done (sync_all ns) d p) (repaired : Done rep p q) where
    ends : LoadEnds f k d q
    ends = (load_holds f law k d l ns named).1 q (done_join (sync_all ns) rep d p q synced repaired)

    next : Still f (suc k) q
    next = record {
      first = ends.still.first;
      second = ends.still.second;
      segment = ends.still.segment;
      above = λ j h. ends.still.above j (omega (arith, h));
      below = λ j h. elim (cases_eq j k) [
        | inl e ↦ subst (λ (i : ℕ). (q.read (Segment i)).there ≡ true → is_whole f (q.read (Segment i)).bytes ≡ true) (sym e) ends.whole
        | inr ne ↦ ends.still.below j (omega (arith, h, ne))
      ];
      snap_read = ends.still.snap_read;
      snap = ends.still.snap;
      snap_rest = ends.still.snap_rest;
    }

    absent : (q.read (Segment (suc k))).there ≡ false
    absent = ends.still.above (suc k) (omega arith)

    loaded : kept f (suc (suc k)) q.read ≡ Loaded new
    loaded = kept_same_at f (suc k) q.read absent ∙ ends.read ∙ is_new

    log : file_log f (suc (suc k)) q.read ≡ file_log f (suc k) d.read
    log = log_same_at f (suc k) q.read absent ∙ ends.log

    -- it is settled as it is, or after a batch that empties the log
    settled : is_stale (snap_in f d.read) (file_log f (suc k) d.read) ≡ false → Settled f (suc k) q
    settled fresh = settled_of f k q ends.still ends.whole (subst (λ (s : Snap). Steady s (file_log f (suc k) q.read)) (sym ends.snap) (subst (Steady (snap_in f d.read)) (sym ends.log) (steady_of _ _ fresh)))

    emptied : is_stale (snap_in f d.read) (file_log f (suc k) d.read) ≡ true
        → AnyMoment f (suc (suc k)) (append_calls (suc k) false 0 word enc) q new new × AtOk f (suc (suc k)) (append_calls (suc k) false 0 word enc) q new
    emptied stale =
        let t = stale_parts (snap_in f d.read) (file_log f (suc k) d.read) stale in
        let index : 0 < (snap_in f d.read).index = omega (arith, t.0, pos) in
        empty_stale_holds f law (suc k) q next absent new loaded
        (subst (λ (s : Snap). 0 < s.index) (sym ends.snap) index)
        (subst (λ (s : Snap). (file_log f (suc (suc k)) q.read).first ≤ s.index) (sym ends.snap) (subst (λ (x : Log). x.first ≤ (snap_in f d.read).index) (sym log) t.0))
        (subst (λ (s : Snap). behind s (file_log f (suc (suc k)) q.read) ≡ record { first = suc s.index; entries = [] }) (sym ends.snap) (subst (λ (x : Log). behind (snap_in f d.read) x ≡ record { first = suc (snap_in f d.read).index; entries = [] }) (sym log) t.1))
        word enc (subst (λ (x : Log). Writes f (record { first = x.first; entries = [] }) word enc) (sym log) w)

    abbrev either_calls : Bool → List NodeCall
    either_calls b = cond b (append_calls (suc k) false 0 word enc) []

    moment : (b : Bool) → is_stale (snap_in f d.read) (file_log f (suc k) d.read) ≡ b → (top : ℕ) → suc (suc k) ≤ top → (e : NodeDisk) → Until (either_calls b) q e → (g : NodeFiles) → Leaves e g → NoChance f e g → kept f top g ≡ kept f top d.read
    moment true stale top h e u g left fair =
        let none = none_behind f (suc k) q next e (until_else (Segment (suc k)) (append_calls (suc k) false 0 word enc) q q e (append_on (suc k) 0 word enc) (else_same (Segment (suc k)) q) u) g left in
        let there : kept f (suc (suc k)) g ≡ Loaded new = elim ((emptied stale).0 e u g left fair) [ inl x ↦ x | inr x ↦ x ] in
        kept_up f (suc (suc k)) top g none h ∙ there ∙ sym is_new ∙ sym (up top h)
    moment false fresh top h e u g left fair =
        let here : Leaves q g = subst (λ (x : NodeDisk). Leaves x g) u left in
        let none = none_behind f k q ends.still q (else_same (Segment k) q) g here in
        kept_up f (suc k) top g none (omega (arith, h)) ∙ ends.crash g here ∙ sym (up top h)

    comes : (b : Bool) → is_stale (snap_in f d.read) (file_log f (suc k) d.read) ≡ b → (e : NodeDisk) → Done (either_calls b) q e → Comes f (suc (suc k)) e new
    comes true stale e u = (emptied stale).1 e u
    comes false fresh e u =
        let room = more_room_holds f (suc k) q (settled fresh) in
        subst (λ (x : NodeDisk). Comes f (suc (suc k)) x new) (sym u) (record { settled = room.0; read = loaded; crash = λ g left. settled_images f (suc (suc k)) q room.0 g left ∙ loaded })

  abbrev stale : Bool
  stale = is_stale (snap_in f d.read) (file_log f (suc k) d.read)

  -- while the last segment is repaired
  repairing : (top : ℕ) → suc (suc k) ≤ top → (p e : NodeDisk) → Done (sync_all ns) d p → Until rep p e → (g : NodeFiles) → Leaves e g → NoChance f e g → kept f top g ≡ kept f top d.read
  repairing top h p e v u g left fair =
      let z = (sync_all_holds tell d l.seen ns named).1 p v in
      let st = still_at_rest f k d p l z.0 z.1 in
      let r : Repairs f k p rep = subst (λ (x : Found). Repairs f k p (repair_calls f k x)) (z.0 (Segment k)) (repairs f law k p st) in
      let none = none_behind f k p st e (until_else (Segment k) rep p p e (repair_on f k (d.read (Segment k))) (else_same (Segment k) p) u) g left in
      let same : kept f (suc k) p.read ≡ kept f (suc k) d.read = (λ i. kept f (suc k) (λ n. z.0 n i)) in
      kept_up f (suc k) top g none (omega (arith, h)) ∙ r.any_moment e u g left fair ∙ same ∙ sym (up top h)

  pub inside : (top : ℕ) → suc (suc k) ≤ top → (e : NodeDisk) → Until (load_calls f k d.read ns word enc) d e → (g : NodeFiles) → Leaves e g → NoChance f e g → (was : NodeFiles) × (Leaves d was × ((kept f top g ≡ kept f top was) × (NoChance f d d.read → NoChance f d was)))
  inside top h e u g left fair = elim (until_append (sync_all ns) (rep ++ empty_calls f k d.read word enc) d e u) [
    | inl v ↦ (g, ((sync_all_holds tell d l.seen ns named).0 e v g left, (refl, λ was. sync_fair f law d ns e v g left fair was)))
    | inr (p, (v, x)) ↦ elim (until_append rep (empty_calls f k d.read word enc) p e x) [
      | inl y ↦ (d.read, (l.seen, (repairing top h p e v y g left fair, λ was. was)))
      | inr (q, (y, z)) ↦ (d.read, (l.seen, (moment p q v y stale refl top h e z g left fair, λ was. was)))
    ]
  ]

  pub at_end : (e : NodeDisk) → Done (load_calls f k d.read ns word enc) d e → Comes f (suc (suc k)) e new
  at_end e u =
      let a = done_append (sync_all ns) (rep ++ empty_calls f k d.read word enc) d e u in
      let b = done_append rep (empty_calls f k d.read word enc) a.0 e a.1.1 in
      comes a.0 b.0 a.1.0 b.1.0 stale refl e b.1.1

pub whole_load_holds : WholeLoad
whole_load_holds f law k d l ns named new is_new pos word enc w =
    (λ top h e u g left fair. inside f law k d l ns named new is_new pos word enc w top h e u g left fair, λ e u. at_end f law k d l ns named new is_new pos word enc w e u)

-- ---- what is read meanwhile

until_of : (cs : List NodeCall) (d e : NodeDisk) → Done cs d e → Until cs d e
until_of [] d e q = q
until_of (c ∷ cs) d e (m, (did, rest)) = inr (inr (m, (did, until_of cs m e rest)))

emptying_allowed : (k : ℕ) (b : Bool) (word enc : List ℕ) (q : NodeDisk) → (q.read (Segment (suc k))).there ≡ false → Rest (q.held (Segment (suc k))) (q.read (Segment (suc k))) → Allowed (cond b (append_calls (suc k) false 0 word enc) []) q
emptying_allowed k true word enc q absent rest = append_allowed (suc k) false 0 word enc q absent (λ y. absurd cc) rest
emptying_allowed k false word enc q absent rest = tt

pub whole_load_seen : WholeLoadSeen
whole_load_seen f k d l ns named word enc =
    seen (load_calls f k d.read ns word enc) d l.seen
    (allowed_then (sync_all ns) _ d (sync_allowed ns d) (λ p v.
    let z = (sync_all_holds tell d l.seen ns named).1 p v in
    allowed_then (repair_calls f k (d.read (Segment k))) (empty_calls f k d.read word enc) p (repair_allowed f k (d.read (Segment k)) p) (λ q r.
    let so = until_else (Segment k) (repair_calls f k (d.read (Segment k))) p p q (repair_on f k (d.read (Segment k))) (else_same (Segment k) p) (until_of _ p q r) in
    emptying_allowed k _ word enc q
    (ap (λ (x : Found). x.there) (so.read (Segment (suc k)) (another k) ∙ z.0 (Segment (suc k))) ∙ l.above (suc k) (omega arith))
    (so.rest (Segment (suc k)) (another k) (z.1 (Segment (suc k)))))))
  where
    another : (k : ℕ) → Segment (suc k) ≡ Segment k → ⊥
    another k q = let z : suc k ≡ k = cc in absurd (omega (arith, z))
