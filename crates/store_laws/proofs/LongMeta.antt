-- The moments of a write of metadata over a longer file.
use Rattle.std.proofs.Common.{◌≡◌, ◌≢◌, inl, inr, ℕ, zero, suc, ◌+◌, ◌≤◌, ◌<◌, Bool, true, false, List, [], ◌∷◌, length, take, drop, refl, sym, ap, ◌∙◌, subst, arith, cond, length-append, length-drop}
use Rattle.std.specs.Prelude.{nat_le, nat_lt, ◌&&◌, ◌||◌}
use Rattle.std.proofs.lemmas.List.{take_at, take_all}
use Rattle.std.proofs.lemmas.Bool.{cases_Bool, cases_eq, cases_lt, cond-true, leb-true, ltb-true}
use Rattle.store_laws.specs.Names.{Name, NodeDisk}
use Rattle.disk_model.specs.Disk.{Found, found, Change, Wrote, Cut, Held, LeavesFile, Sure, Absent, byte_at, loose}
use Rattle.disk_model.specs.Calls.{WriteAt, CutTo, Sync, Done, Until, Does, after_write, after_cut, after_sync, put}
use Rattle.store_laws.specs.Store.{Format, meta_of}
use Rattle.store_laws.specs.Chance.{Lawful}
use Rattle.disk_model.specs.Rest.{Rest}
use Rattle.store_laws.specs.Meta.{set_long_calls, goes_first, next_stamp, file_of}
use Rattle.store_laws.specs.Laws.{SetMetaLong}
use Rattle.disk_model.proofs.Bytes.{front_stands, untouched}
use Rattle.disk_model.proofs.Elsewhere.{Elsewhere, else_same, else_on}
use Rattle.store_laws.proofs.Metas.{Three, none, before, after}
use Rattle.disk_model.proofs.Rewrites.{Ended}
use Rattle.store_laws.proofs.MetaLaw.{rest_of, at_three, at_end}

abbrev rested : List ℕ → List Change → Held
rested bytes since = record { standing = Sure; bytes = bytes; since = since }

pub data LongStage (enc old : List ℕ) (k : Held) : Type 0 where
  same : k ≡ rested old [] → LongStage enc old k
  written : k ≡ rested old (Wrote 0 enc ∷ []) → LongStage enc old k
  flushed : k ≡ rested (put 0 enc old) [] → LongStage enc old k
  cut : k ≡ rested (put 0 enc old) (Cut 40 ∷ []) → LongStage enc old k
  done : k ≡ rested enc [] → LongStage enc old k

byte_past : (c : List ℕ) (i : ℕ) → length c ≤ i → byte_at c i ≡ 0
byte_past [] i h = refl
byte_past (x ∷ c) zero h = absurd (omega arith)
byte_past (x ∷ c) (suc i) h = byte_past c i (omega arith)

byte_in : (c : List ℕ) (i : ℕ) → i < length c → byte_at c i ≢ 0
byte_in [] i h = absurd (omega arith)
byte_in (x ∷ c) zero h = λ z. let y : suc x ≡ 0 = z in absurd (omega arith)
byte_in (x ∷ c) (suc i) h = byte_in c i (omega arith)

behind_block : (enc : List ℕ) → length enc ≡ 40 → loose (Wrote 0 enc ∷ []) 40 ≡ false
behind_block enc len = elim (cases_Bool (nat_lt 40 (0 + length enc))) [
  | inl t ↦ let l : 40 < 0 + length enc = ltb-true _ _ t in absurd (omega arith)
  | inr n ↦ λ j. (nat_le 0 40 && n j) || false
]

before_cut : (i : ℕ) → i < 40 → loose (Cut 40 ∷ []) i ≡ false
before_cut i h = elim (cases_Bool (nat_le 40 i)) [
  | inl t ↦ let l : 40 ≤ i = leb-true _ _ t in absurd (omega arith)
  | inr n ↦ λ j. n j || false
]

module _ (f : Format) (law : Lawful f) (side : Bool) (enc old : List ℕ) (len : length enc ≡ 40) (long : 40 < length old) where
  abbrev Reads : Found → Type 0
  Reads x = Three (f.meta side x.bytes) (f.meta side old) (f.meta side enc)

  longer : 40 < length (put 0 enc old)
  longer = omega (arith, length-append enc (drop (0 + length enc) old), length-drop (0 + length enc) old)

  too_long : (x : Found) → 40 < length x.bytes → Reads x
  too_long x h = elim (cases_eq (f.meta side x.bytes).stamp 0) [
    | inl z ↦ none (law.meta_none side x.bytes z)
    | inr ne ↦ let e : length x.bytes ≡ 40 = law.meta_long side x.bytes ne in absurd (omega arith)
  ]

  pub long_reads : (k : Held) (x : Found) → LongStage enc old k → LeavesFile k x → Reads x
  long_reads k x (same e) left =
      let l : LeavesFile (rested old []) x = subst (λ (h : Held). LeavesFile h x) e left in
      before (ap (f.meta side) (untouched old x.bytes (l.left (l.sure refl))))
  long_reads k x (flushed e) left =
      let l : LeavesFile (rested (put 0 enc old) []) x = subst (λ (h : Held). LeavesFile h x) e left in
      too_long x (omega (arith, longer, ap length (untouched (put 0 enc old) x.bytes (l.left (l.sure refl)))))
  long_reads k x (done e) left =
      let l : LeavesFile (rested enc []) x = subst (λ (h : Held). LeavesFile h x) e left in
      after (ap (f.meta side) (untouched enc x.bytes (l.left (l.sure refl))))
  long_reads k x (written e) left =
      let l : LeavesFile (rested old (Wrote 0 enc ∷ [])) x = subst (λ (h : Held). LeavesFile h x) e left in
      let b : byte_at x.bytes 40 ≡ byte_at old 40 = (l.left (l.sure refl)).stays 40 long (behind_block enc len) in
      elim (cases_lt 40 (length x.bytes)) [
        | inl h ↦ too_long x h
        | inr h ↦ absurd (byte_in old 40 long (sym b ∙ byte_past x.bytes 40 h))
      ]
  long_reads k x (cut e) left =
      let l : LeavesFile (rested (put 0 enc old) (Cut 40 ∷ [])) x = subst (λ (h : Held). LeavesFile h x) e left in
      let st = front_stands 40 (put 0 enc old) x.bytes (Cut 40 ∷ []) (omega (arith, longer)) before_cut (l.left (l.sure refl)) in
      elim (cases_lt 40 (length x.bytes)) [
        | inl h ↦ too_long x h
        | inr h ↦ after (ap (f.meta side) (sym (take_all 40 x.bytes h) ∙ st.0 ∙ take_at enc (drop (0 + length enc) old) 40 len))
      ]

module _ (n : Name) (enc : List ℕ) (d : NodeDisk) (len : length enc ≡ 40) (rest : Rest (d.held n) (d.read n)) (long : 40 < length (d.read n).bytes) where
  abbrev old : List ℕ
  old = (d.read n).bytes

  there : (d.read n).there ≡ true
  there = elim (cases_Bool (d.read n).there) [ inl t ↦ t | inr t ↦ absurd (omega (arith, ap length (rest.empty t))) ]

  held : d.held n ≡ rested old []
  held = λ i. record { standing = (rest.standing ∙ cond-true _ Sure Absent there) i; bytes = rest.bytes i; since = rest.since i }

  pub record LongMoment (e : NodeDisk) : Type 0 where
    pub elsewhere : Elsewhere n d e
    pub stage : LongStage enc old (e.held n)

  record At (h : Held) (x : List ℕ) (e : NodeDisk) : Type 0 where
    elsewhere : Elsewhere n d e
    held : e.held n ≡ h
    read : e.read n ≡ found x

  begun : (h : Held) → h ≡ after_write 0 enc (d.held n) → h ≡ rested old (Wrote 0 enc ∷ [])
  begun h e = e ∙ ap (after_write 0 enc) held

  wrote : (m : NodeDisk) → Does (WriteAt n 0 enc) d m → At (rested old (Wrote 0 enc ∷ [])) (put 0 enc old) m
  wrote m w = record { elsewhere = else_on n d d m (else_same n d) w.others; held = begun _ w.held; read = w.read }

  synced : (x : List ℕ) (y : List ℕ) (since : List Change) (m e : NodeDisk) → At (rested x since) y m → Does (Sync n) m e → At (rested y []) y e
  synced x y since m e a t = record { elsewhere = else_on n d m e a.elsewhere t.others; held = t.held ∙ (λ i. after_sync (a.read i) (a.held i)); read = t.read ∙ a.read }

  cuts : (m : NodeDisk) (h : Held) → At (rested (put 0 enc old) []) (put 0 enc old) m → h ≡ cond (m.read n).there (after_cut 40 (m.held n)) (m.held n) → h ≡ rested (put 0 enc old) (Cut 40 ∷ [])
  cuts m h a e = e ∙ (λ i. cond (a.read i).there (after_cut 40 (a.held i)) (a.held i))

  cut_done : (m e : NodeDisk) → At (rested (put 0 enc old) []) (put 0 enc old) m → Does (CutTo n 40) m e → At (rested (put 0 enc old) (Cut 40 ∷ [])) enc e
  cut_done m e a t = record {
    elsewhere = else_on n d m e a.elsewhere t.others;
    held = cuts m _ a t.held;
    read = t.read ∙ (λ i. record { there = (a.read i).there; bytes = take 40 (a.read i).bytes }) ∙ ap found (take_at enc (drop (0 + length enc) old) 40 len);
  }

  to : (m e : NodeDisk) → e ≡ m → LongMoment m → LongMoment e
  to m e q at = subst LongMoment (sym q) at

  at_write : (m : NodeDisk) → At (rested old (Wrote 0 enc ∷ [])) (put 0 enc old) m → LongMoment m
  at_write m a = record { elsewhere = a.elsewhere; stage = written a.held }

  pub long_moments : (e : NodeDisk) → Until (set_long_calls n enc) d e → LongMoment e
  long_moments e u = elim u [
    | inl q ↦ to d e q (record { elsewhere = else_same n d; stage = same held })
    | inr (inl broke) ↦ record { elsewhere = else_on n d d e (else_same n d) broke.others; stage = written (begun _ broke.held) }
    | inr (inr (m, (w, inl q))) ↦ to m e q (at_write m (wrote m w))
    | inr (inr (m, (w, inr (inl q)))) ↦ to m e q (at_write m (wrote m w))
    | inr (inr (m, (w, inr (inr (p, (t, v)))))) ↦ later p e (synced _ _ _ m p (wrote m w) t) v
  ]
    where
      ends : (p e : NodeDisk) → At (rested (put 0 enc old) (Cut 40 ∷ [])) enc p → Until (Sync n ∷ []) p e → LongMoment e
      ends p e a v = elim v [
        | inl q ↦ to p e q (record { elsewhere = a.elsewhere; stage = cut a.held })
        | inr (inl q) ↦ to p e q (record { elsewhere = a.elsewhere; stage = cut a.held })
        | inr (inr (r, (t, q))) ↦ let z = synced _ _ _ p r a t in to r e q (record { elsewhere = z.elsewhere; stage = done z.held })
      ]

      later : (p e : NodeDisk) → At (rested (put 0 enc old) []) (put 0 enc old) p → Until (CutTo n 40 ∷ Sync n ∷ []) p e → LongMoment e
      later p e a v = elim v [
        | inl q ↦ to p e q (record { elsewhere = a.elsewhere; stage = flushed a.held })
        | inr (inl broke) ↦ record { elsewhere = else_on n d p e a.elsewhere broke.others; stage = cut (cuts p _ a broke.held) }
        | inr (inr (r, (t, w))) ↦ ends r e (cut_done p r a t) w
      ]

  pub long_ended : (e : NodeDisk) → Done (set_long_calls n enc) d e → Ended n enc d e
  long_ended e (m, (w, (p, (t, (r, (c, (x, (y, q)))))))) =
      let z = synced _ _ _ r x (cut_done p r (synced _ _ _ m p (wrote m w) t) c) y in
      subst (Ended n enc d) (sym q) (record {
        elsewhere = z.elsewhere;
        rest = subst (λ (v : Found). Rest (x.held n) v) (sym z.read) (subst (λ (h : Held). Rest h (found enc)) (sym z.held) (record { since = refl; bytes = refl; standing = refl; empty = λ v. absurd cc }));
        read = z.read;
      })

pub set_meta_long_holds : SetMetaLong
set_meta_long_holds f law top d s k is_k term vote enc next long =
    let p = goes_first (next_stamp (meta_of f d.read)) in
    let rest = rest_of f law top d s k is_k term vote enc next.long p in (
      λ e u g left fair. let m = long_moments (file_of p) enc d next.long rest long e u in
          at_three f law top d s k is_k term vote enc next.long p refl next.reads e m.elsewhere g left (long_reads f law p enc (d.read (file_of p)).bytes next.long long _ _ m.stage (left.each (file_of p))),
      λ e u. at_end f law top d s k is_k term vote enc next.long p refl next.reads e (long_ended (file_of p) enc d next.long rest long e u),
    )
