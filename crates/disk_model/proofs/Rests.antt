-- A file that is at rest: what a read gives is on the disk, and a crash leaves nothing else.
use Rattle.std.proofs.Common.{◌≡◌, ◌⊎◌, inl, inr, ⊎_elim, ℕ, true, false, List, [], refl, sym, ◌∙◌, subst, arith}
use Rattle.std.proofs.lemmas.Bool.{cases_Bool, cond-true, cond-false}
use Rattle.disk_model.specs.Disk.{Found, found, missing, Change, Held, LeavesBytes, LeavesFile, Sure, Absent}
use Rattle.disk_model.specs.Rest.{Rest}
use Rattle.disk_model.specs.Calls.{after_names}
use Rattle.disk_model.proofs.Bytes.{untouched}

pub same_found : (x f : Found) → x.there ≡ f.there → x.bytes ≡ f.bytes → x ≡ f
same_found x f t b = λ i. record { there = t i; bytes = b i }

pub rest_only : (h : Held) (f x : Found) → Rest h f → LeavesFile h x → x ≡ f
rest_only h f x r left = ⊎_elim there not (cases_Bool f.there)
  where
    there : f.there ≡ true → x ≡ f
    there e =
        let here = left.sure (r.standing ∙ cond-true f.there Sure Absent e) in
        let stands : LeavesBytes h.bytes [] x.bytes = subst (λ (s : List Change). LeavesBytes h.bytes s x.bytes) r.since (left.left here) in
        same_found x f (here ∙ sym e) (untouched h.bytes x.bytes stands ∙ r.bytes)

    not : f.there ≡ false → x ≡ f
    not e =
        let gone = left.absent (r.standing ∙ cond-false f.there Sure Absent e) in
        same_found x f (gone ∙ sym e) (left.empty gone ∙ sym (r.empty e))

-- written and synced, its name maybe not yet: there whole, or not there
pub synced_or_not : (h : Held) (x : Found) → h.since ≡ [] → LeavesFile h x → (x ≡ missing) ⊎ (x ≡ found h.bytes)
synced_or_not h x r left = ⊎_elim there not (cases_Bool x.there)
  where
    there : x.there ≡ true → (x ≡ missing) ⊎ (x ≡ found h.bytes)
    there e = inr (same_found x (found h.bytes) e (untouched h.bytes x.bytes (subst (λ (s : List Change). LeavesBytes h.bytes s x.bytes) r (left.left e))))

    not : x.there ≡ false → (x ≡ missing) ⊎ (x ≡ found h.bytes)
    not e = inl (same_found x missing e (left.empty e))

pub rest_left : (h : Held) (f : Found) → Rest h f → LeavesFile h f
rest_left h f r = record {
  sure = λ e. elim (cases_Bool f.there) [
    | inl t ↦ t
    | inr n ↦ let z : Absent ≡ Sure = sym (r.standing ∙ cond-false f.there Sure Absent n) ∙ e in absurd cc
  ];
  absent = λ e. elim (cases_Bool f.there) [
    | inl t ↦ let z : Sure ≡ Absent = sym (r.standing ∙ cond-true f.there Sure Absent t) ∙ e in absurd cc
    | inr n ↦ n
  ];
  empty = r.empty;
  left = λ e. subst (λ (s : List Change). LeavesBytes h.bytes s f.bytes) (sym r.since) (subst (λ (c : List ℕ). LeavesBytes h.bytes [] c) r.bytes (here h.bytes));
}
  where
    here : (c : List ℕ) → LeavesBytes c [] c
    here c = record { stays = λ i l e. refl; no_longer = omega arith }

-- a sync of the names only takes outcomes away
pub names_shrink : (h : Held) (f x : Found) → LeavesFile h f → LeavesFile (after_names f h) x → LeavesFile h x
names_shrink h f x was left = elim (cases_Bool f.there) [
  | inl t ↦
      let now : LeavesFile (record { standing = Sure; bytes = h.bytes; since = h.since }) x = subst (λ (k : Held). LeavesFile k x) (cond-true f.there _ _ t) left in
      record {
        sure = λ e. now.sure refl;
        absent = λ e. let z = was.absent e in let y : false ≡ true = sym z ∙ t in absurd cc;
        empty = now.empty;
        left = now.left;
      }
  | inr n ↦
      let now : LeavesFile (record { standing = Absent; bytes = []; since = [] }) x = subst (λ (k : Held). LeavesFile k x) (cond-false f.there _ _ n) left in
      let not = now.absent refl in
      record {
        sure = λ e. let z = was.sure e in let y : false ≡ true = sym n ∙ z in absurd cc;
        absent = λ e. not;
        empty = now.empty;
        left = λ e. let y : false ≡ true = sym not ∙ e in absurd cc;
      }
]

pub names_left : (h : Held) (f : Found) → LeavesFile h f → LeavesFile (after_names f h) f
names_left h f was = elim (cases_Bool f.there) [
  | inl t ↦
      subst (λ (k : Held). LeavesFile k f) (sym (cond-true f.there _ _ t)) (record { sure = λ e. t; absent = λ e. absurd cc; empty = was.empty; left = was.left })
  | inr n ↦
      subst (λ (k : Held). LeavesFile k f) (sym (cond-false f.there _ _ n)) (record { sure = λ e. absurd cc; absent = λ e. n; empty = was.empty; left = λ e. let y : false ≡ true = sym n ∙ e in absurd cc })
]

pub names_rest : (h : Held) (f : Found) → Rest h f → Rest (after_names f h) f
names_rest h f r = elim (cases_Bool f.there) [
  | inl t ↦
      subst (λ (k : Held). Rest k f) (sym (cond-true f.there _ _ t)) (record { since = r.since; bytes = r.bytes; standing = sym (cond-true f.there Sure Absent t); empty = r.empty })
  | inr n ↦
      subst (λ (k : Held). Rest k f) (sym (cond-false f.there _ _ n)) (record { since = refl; bytes = sym (r.empty n); standing = sym (cond-false f.there Sure Absent n); empty = r.empty })
]
