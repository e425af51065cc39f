-- Each file is synced and then the names.
use Rattle.std.proofs.Common.{◌≡◌, ◌⊎◌, inl, inr, ⊎_elim, Bool, true, List, [], ◌∷◌, refl, sym, ap, ◌∙◌, subst, cond, arith}
use Rattle.std.proofs.lemmas.Bool.{cases_Bool, cond-true, cond-false}
use Rattle.disk_model.specs.Disk.{Found, Files, Held, Disk, LeavesBytes, LeavesFile, Leaves, Sure, Absent}
use Rattle.disk_model.specs.Calls.{Done, Until, Turns, NamesSynced, after_sync, after_names}
use Rattle.disk_model.specs.Rest.{Rest}
use Rattle.disk_model.specs.SyncAll.{sync_all, Among, SyncAll}
use Rattle.disk_model.proofs.Bytes.{untouched}
use Rattle.disk_model.proofs.Rests.{names_shrink, names_left}
use Rattle.disk_model.proofs.Names.{Apart, same, apart}

pub sync_shrink : (h : Held) (f x : Found) → LeavesFile h f → LeavesFile (after_sync f h) x → LeavesFile h x
sync_shrink h f x was left = elim (cases_Bool f.there) [
  | inl t ↦
      let now : LeavesFile (record { standing = h.standing; bytes = f.bytes; since = [] }) x = subst (λ (k : Held). LeavesFile k x) (cond-true f.there _ _ t) left in
      record {
        sure = now.sure;
        absent = now.absent;
        empty = now.empty;
        left = λ e. subst (LeavesBytes h.bytes h.since) (sym (untouched f.bytes x.bytes (now.left e))) (was.left t);
      }
  | inr n ↦ subst (λ (k : Held). LeavesFile k x) (cond-false f.there _ _ n) left
]

pub sync_left : (h : Held) (f : Found) → LeavesFile h f → LeavesFile (after_sync f h) f
sync_left h f was = elim (cases_Bool f.there) [
  | inl t ↦
      subst (λ (k : Held). LeavesFile k f) (sym (cond-true f.there _ _ t)) (record {
        sure = was.sure;
        absent = was.absent;
        empty = was.empty;
        left = λ e. record { stays = λ i l z. refl; no_longer = omega arith };
      })
  | inr n ↦ subst (λ (k : Held). LeavesFile k f) (sym (cond-false f.there _ _ n)) was
]

-- the bytes of a file are on the disk, if it is there
pub record Flushed (h : Held) (f : Found) : Type 0 where
  pub since : f.there ≡ true → h.since ≡ []
  pub bytes : f.there ≡ true → h.bytes ≡ f.bytes

sync_flushed : (h : Held) (f : Found) → Flushed (after_sync f h) f
sync_flushed h f = record {
  since = λ t. ap (λ (b : Bool). (cond b (record { standing = h.standing; bytes = f.bytes; since = [] }) h).since) t;
  bytes = λ t. ap (λ (b : Bool). (cond b (record { standing = h.standing; bytes = f.bytes; since = [] }) h).bytes) t;
}

names_rests : (h : Held) (f : Found) → LeavesFile h f → (f.there ≡ true → Flushed h f) → Rest (after_names f h) f
names_rests h f was fl = elim (cases_Bool f.there) [
  | inl t ↦
      subst (λ (k : Held). Rest k f) (sym (cond-true f.there _ _ t)) (record { since = (fl t).since t; bytes = (fl t).bytes t; standing = sym (cond-true f.there Sure Absent t); empty = was.empty })
  | inr n ↦
      subst (λ (k : Held). Rest k f) (sym (cond-false f.there _ _ n)) (record { since = refl; bytes = sym (was.empty n); standing = sym (cond-false f.there Sure Absent n); empty = was.empty })
]

-- a disk on the way
record Way {N : Type 0} (d e : Disk N) : Type 0 where
  pub read : (n : N) → e.read n ≡ d.read n
  pub seen : (n : N) → LeavesFile (e.held n) (e.read n)
  pub left : (n : N) (x : Found) → LeavesFile (e.held n) x → LeavesFile (d.held n) x

module _ {N : Type 0} (tell : (m n : N) → Apart m n) (d : Disk N) where
  step : (n : N) (m e : Disk N) → Way d m → Turns n m e (after_sync (m.read n) (m.held n)) (m.read n) → Way d e
  step n m e w t = record { read = λ j. reads j ∙ w.read j; seen = seen; left = λ j x l. w.left j x (back j x l) }
    where
      reads : (j : N) → e.read j ≡ m.read j
      reads j = elim (tell j n) [ same q ↦ subst (λ (i : N). e.read i ≡ m.read i) (sym q) t.read | apart a ↦ t.others.read j a ]

      seen : (j : N) → LeavesFile (e.held j) (e.read j)
      seen j = elim (tell j n) [
        | same q ↦ subst (λ (i : N). LeavesFile (e.held i) (e.read i)) (sym q) (subst (λ (f : Found). LeavesFile (e.held n) f) (sym t.read) (subst (λ (h : Held). LeavesFile h (m.read n)) (sym t.held) (sync_left _ _ (w.seen n))))
        | apart a ↦ subst (λ (f : Found). LeavesFile (e.held j) f) (sym (t.others.read j a)) (subst (λ (h : Held). LeavesFile h (m.read j)) (sym (t.others.held j a)) (w.seen j))
      ]

      back : (j : N) (x : Found) → LeavesFile (e.held j) x → LeavesFile (m.held j) x
      back j x l = elim (tell j n) [
        | same q ↦ subst (λ (i : N). LeavesFile (m.held i) x) (sym q) (sync_shrink _ _ x (w.seen n) (subst (λ (h : Held). LeavesFile h x) t.held (subst (λ (i : N). LeavesFile (e.held i) x) q l)))
        | apart a ↦ subst (λ (h : Held). LeavesFile h x) (t.others.held j a) l
      ]

  names_step : (m e : Disk N) → Way d m → NamesSynced m e → Way d e
  names_step m e w o = record {
    read = λ j. o.read j ∙ w.read j;
    seen = λ j. subst (λ (f : Found). LeavesFile (e.held j) f) (sym (o.read j)) (subst (λ (h : Held). LeavesFile h (m.read j)) (sym (o.held j)) (names_left _ _ (w.seen j)));
    left = λ j x l. w.left j x (names_shrink _ _ x (w.seen j) (subst (λ (h : Held). LeavesFile h x) (o.held j) l));
  }

  images : (e : Disk N) → Way d e → (g : Files N) → Leaves e g → Leaves d g
  images e w g l = record { each = λ n. w.left n (g n) (l.each n) }

  moves : (ns : List N) (m e : Disk N) → Way d m → Until (sync_all ns) m e → (g : Files N) → Leaves e g → Leaves d g
  moves [] m e w u = elim u [
    | inl q ↦ images e (subst (Way d) (sym q) w)
    | inr (inl q) ↦ images e (subst (Way d) (sym q) w)
    | inr (inr (p, (o, q))) ↦ images e (subst (Way d) (sym q) (names_step m p w o))
  ]
  moves (n ∷ ns) m e w u = elim u [
    | inl q ↦ images e (subst (Way d) (sym q) w)
    | inr (inl q) ↦ images e (subst (Way d) (sym q) w)
    | inr (inr (p, (t, v))) ↦ moves ns p e (step n m p w t) v
  ]

  flushed_now : (n : N) (m e : Disk N) → Turns n m e (after_sync (m.read n) (m.held n)) (m.read n) → Flushed (e.held n) (e.read n)
  flushed_now n m e t = subst (λ (f : Found). Flushed (e.held n) f) (sym t.read) (subst (λ (h : Held). Flushed h (m.read n)) (sym t.held) (sync_flushed (m.held n) (m.read n)))

  -- what has been flushed stays so
  stays : (n : N) (m e : Disk N) → Turns n m e (after_sync (m.read n) (m.held n)) (m.read n) → (j : N) → Flushed (m.held j) (m.read j) → Flushed (e.held j) (e.read j)
  stays n m e t j fl = elim (tell j n) [
    | same q ↦ subst (λ (i : N). Flushed (e.held i) (e.read i)) (sym q) (flushed_now n m e t)
    | apart a ↦ subst (λ (f : Found). Flushed (e.held j) f) (sym (t.others.read j a)) (subst (λ (h : Held). Flushed h (m.read j)) (sym (t.others.held j a)) fl)
  ]

  -- at the end
  finish : (ns : List N) (m e : Disk N) → Way d m → ((n : N) → (m.read n).there ≡ true → Flushed (m.held n) (m.read n) ⊎ Among n ns) → Done (sync_all ns) m e
      → ((n : N) → e.read n ≡ d.read n) × ((n : N) → Rest (e.held n) (e.read n))
  finish [] m e w all (p, (o, q)) = (
    λ n. ap (λ (z : Disk N). z.read n) q ∙ o.read n ∙ w.read n,
    λ n. subst (λ (z : Disk N). Rest (z.held n) (z.read n)) (sym q)
        (subst (λ (f : Found). Rest (p.held n) f) (sym (o.read n)) (subst (λ (h : Held). Rest h (m.read n)) (sym (o.held n))
        (names_rests (m.held n) (m.read n) (w.seen n) (λ t. ⊎_elim (λ x. x) (λ x. absurd x) (all n t))))),
  )
  finish (n ∷ ns) m e w all (p, (t, v)) = finish ns p e (step n m p w t) next v
    where
      next : (j : N) → (p.read j).there ≡ true → Flushed (p.held j) (p.read j) ⊎ Among j ns
      next j y = elim (tell j n) [
        | same q ↦ inl (subst (λ (i : N). Flushed (p.held i) (p.read i)) (sym q) (flushed_now n m p t))
        | apart a ↦ elim (all j (ap (λ (x : Found). x.there) (sym (t.others.read j a)) ∙ y)) [
          | inl fl ↦ inl (stays n m p t j fl)
          | inr (inl q) ↦ absurd (a q)
          | inr (inr z) ↦ inr z
        ]
      ]

pub sync_all_holds : {N : Type 0} → ((m n : N) → Apart m n) → SyncAll N
sync_all_holds tell d wf ns named =
    let start : Way d d = record { read = λ n. refl; seen = wf.each; left = λ n x l. l } in
    (λ e. moves tell d ns d e start, λ e. finish tell d ns d e start (λ n t. inr (named n t)))
