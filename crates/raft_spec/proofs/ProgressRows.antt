-- One row of a leader's progress is changed.
use Rattle.std.proofs.Common.{◌≡◌, ◌≢◌, ℕ, zero, suc, ◌-◌, ◌<◌, Bool, true, false, cond, List, [], ◌∷◌, length, take, sym, ap, ◌∙◌, ⊎_elim, arith}
use Rattle.std.specs.Prelude.{◌==◌, min, max}
use Rattle.std.proofs.Math.ListN.{get_or, set}
use Rattle.std.proofs.lemmas.Bool.{or_left, or_right, or_parts, eq-eqb, ne_eqb, eqb-false, cond-true, cond-false, cases_eq}
use Rattle.raft_spec.specs.Node.{among}
use Rattle.raft_spec.specs.Outcomes.{updated}
use Rattle.raft_spec.specs.Progress.{PeerProgress, next_in, match_in, ids_in, ProgressTable, progress_of, after_ack}

-- the first row of an id is at a place
pub record At (rs : List PeerProgress) (i : ℕ) (r : PeerProgress) : Type 0 where
  pub within : i < length rs
  pub is : (d : PeerProgress) → get_or rs i d ≡ r
  pub first : among (ids_in (take i rs)) r.id ≡ false

tail : (r x : PeerProgress) (rs : List PeerProgress) (i : ℕ) → At (x ∷ rs) (suc i) r → At rs i r
tail r x rs i a = record { within = let w = a.within in omega arith; is = a.is; first = (or_parts _ _ a.first).1 }

other : (r x : PeerProgress) (rs : List PeerProgress) (i : ℕ) → At (x ∷ rs) (suc i) r → r.id ≢ x.id
other r x rs i a z = eqb-false x.id r.id (or_parts _ _ a.first).0 (sym z)

pub has_row : (rs : List PeerProgress) (i : ℕ) (r : PeerProgress) → At rs i r → among (ids_in rs) r.id ≡ true
has_row [] i r a = absurd (let w = a.within in omega arith)
has_row (x ∷ rs) zero r a = or_left _ _ (eq-eqb _ _ (ap (λ y. y.id) (a.is r)))
has_row (x ∷ rs) (suc i) r a = or_right _ _ (has_row rs i r (tail r x rs i a))

pub next_at : (rs : List PeerProgress) (i : ℕ) (r : PeerProgress) → At rs i r → next_in rs r.id ≡ r.next
next_at [] i r a = absurd (let w = a.within in omega arith)
next_at (x ∷ rs) zero r a = cond-true (r.id == x.id) x.next (next_in rs r.id) (eq-eqb _ _ (sym (ap (λ y. y.id) (a.is r)))) ∙ ap (λ y. y.next) (a.is r)
next_at (x ∷ rs) (suc i) r a = cond-false (r.id == x.id) x.next (next_in rs r.id) (ne_eqb _ _ (other r x rs i a)) ∙ next_at rs i r (tail r x rs i a)

pub match_at : (rs : List PeerProgress) (i : ℕ) (r : PeerProgress) → At rs i r → match_in rs r.id ≡ r.matched
match_at [] i r a = absurd (let w = a.within in omega arith)
match_at (x ∷ rs) zero r a = cond-true (r.id == x.id) x.matched (match_in rs r.id) (eq-eqb _ _ (sym (ap (λ y. y.id) (a.is r)))) ∙ ap (λ y. y.matched) (a.is r)
match_at (x ∷ rs) (suc i) r a = cond-false (r.id == x.id) x.matched (match_in rs r.id) (ne_eqb _ _ (other r x rs i a)) ∙ match_at rs i r (tail r x rs i a)

pub ids_set : (rs : List PeerProgress) (i : ℕ) (r s : PeerProgress) → At rs i r → s.id ≡ r.id → ids_in (set rs i s) ≡ ids_in rs
ids_set [] i r s a e = absurd (let w = a.within in omega arith)
ids_set (x ∷ rs) zero r s a e = ap (λ y. y ∷ ids_in rs) (e ∙ sym (ap (λ y. y.id) (a.is r)))
ids_set (x ∷ rs) (suc i) r s a e = ap (λ l. x.id ∷ l) (ids_set rs i r s (tail r x rs i a) e)

pub next_set : (rs : List PeerProgress) (i : ℕ) (r s : PeerProgress) → At rs i r → s.id ≡ r.id → (p : ℕ) → next_in (set rs i s) p ≡ updated (next_in rs) r.id s.next p
next_set [] i r s a e p = absurd (let w = a.within in omega arith)
next_set (x ∷ rs) zero r s a e p =
    let is : x.id ≡ r.id = ap (λ y. y.id) (a.is r) in
    ⊎_elim
    (λ (y : p ≡ r.id). cond-true (p == s.id) s.next (next_in rs p) (eq-eqb _ _ (y ∙ sym e)) ∙ sym (cond-true (p == r.id) s.next (next_in (x ∷ rs) p) (eq-eqb _ _ y)))
    (λ (y : p ≢ r.id). cond-false (p == s.id) s.next (next_in rs p) (ne_eqb _ _ (λ z. y (z ∙ e))) ∙ sym (cond-false (p == r.id) s.next (next_in (x ∷ rs) p) (ne_eqb _ _ y) ∙ cond-false (p == x.id) x.next (next_in rs p) (ne_eqb _ _ (λ z. y (z ∙ is)))))
    (cases_eq p r.id)
next_set (x ∷ rs) (suc i) r s a e p =
    let ih = next_set rs i r s (tail r x rs i a) e p in
    ⊎_elim
    (λ (y : p ≡ x.id).
    let far : p ≢ r.id = λ z. other r x rs i a (sym z ∙ y) in
    cond-true (p == x.id) x.next (next_in (set rs i s) p) (eq-eqb _ _ y) ∙ sym (cond-false (p == r.id) s.next (next_in (x ∷ rs) p) (ne_eqb _ _ far) ∙ cond-true (p == x.id) x.next (next_in rs p) (eq-eqb _ _ y)))
    (λ (y : p ≢ x.id). cond-false (p == x.id) x.next (next_in (set rs i s) p) (ne_eqb _ _ y) ∙ ih ∙ ap (λ n. cond (p == r.id) s.next n) (sym (cond-false (p == x.id) x.next (next_in rs p) (ne_eqb _ _ y))))
    (cases_eq p x.id)

pub match_set : (rs : List PeerProgress) (i : ℕ) (r s : PeerProgress) → At rs i r → s.id ≡ r.id → (p : ℕ) → match_in (set rs i s) p ≡ updated (match_in rs) r.id s.matched p
match_set [] i r s a e p = absurd (let w = a.within in omega arith)
match_set (x ∷ rs) zero r s a e p =
    let is : x.id ≡ r.id = ap (λ y. y.id) (a.is r) in
    ⊎_elim
    (λ (y : p ≡ r.id). cond-true (p == s.id) s.matched (match_in rs p) (eq-eqb _ _ (y ∙ sym e)) ∙ sym (cond-true (p == r.id) s.matched (match_in (x ∷ rs) p) (eq-eqb _ _ y)))
    (λ (y : p ≢ r.id). cond-false (p == s.id) s.matched (match_in rs p) (ne_eqb _ _ (λ z. y (z ∙ e))) ∙ sym (cond-false (p == r.id) s.matched (match_in (x ∷ rs) p) (ne_eqb _ _ y) ∙ cond-false (p == x.id) x.matched (match_in rs p) (ne_eqb _ _ (λ z. y (z ∙ is)))))
    (cases_eq p r.id)
match_set (x ∷ rs) (suc i) r s a e p =
    let ih = match_set rs i r s (tail r x rs i a) e p in
    ⊎_elim
    (λ (y : p ≡ x.id).
    let far : p ≢ r.id = λ z. other r x rs i a (sym z ∙ y) in
    cond-true (p == x.id) x.matched (match_in (set rs i s) p) (eq-eqb _ _ y) ∙ sym (cond-false (p == r.id) s.matched (match_in (x ∷ rs) p) (ne_eqb _ _ far) ∙ cond-true (p == x.id) x.matched (match_in rs p) (eq-eqb _ _ y)))
    (λ (y : p ≢ x.id). cond-false (p == x.id) x.matched (match_in (set rs i s) p) (ne_eqb _ _ y) ∙ ih ∙ ap (λ n. cond (p == r.id) s.matched n) (sym (cond-false (p == x.id) x.matched (match_in rs p) (ne_eqb _ _ y))))
    (cases_eq p x.id)

tables : (ids ids' : List ℕ) (f f' g g' : ℕ → ℕ) → ids ≡ ids' → ((p : ℕ) → f p ≡ f' p) → ((p : ℕ) → g p ≡ g' p) → let a : ProgressTable = record { ids = ids; next_of = f; match_of = g } in let b : ProgressTable = record { ids = ids'; next_of = f'; match_of = g' } in a ≡ b
tables ids ids' f f' g g' a b c = λ k. record { ids = a k; next_of = λ p. b p k; match_of = λ p. c p k }

pub good_row : (rs : List PeerProgress) (i : ℕ) (r s : PeerProgress) (index : ℕ) → At rs i r → s.id ≡ r.id → s.matched ≡ max r.matched index → s.next ≡ suc (max r.matched index) → progress_of (set rs i s) ≡ after_ack (progress_of rs) r.id true index
good_row rs i r s index a e m n =
    let k = match_at rs i r a in
    tables _ _ _ _ _ _ (ids_set rs i r s a e)
    (λ p. next_set rs i r s a e p ∙ ap (λ v. updated (next_in rs) r.id v p) (n ∙ ap (λ v. suc (max v index)) (sym k)))
    (λ p. match_set rs i r s a e p ∙ ap (λ v. updated (match_in rs) r.id v p) (m ∙ ap (λ v. max v index) (sym k)))
    ∙ sym (cond-true (among (ids_in rs) r.id) (record (progress_of rs) { next_of = updated (next_in rs) r.id (suc (max (match_in rs r.id) index)); match_of = updated (match_in rs) r.id (max (match_in rs r.id) index) }) (progress_of rs) (has_row rs i r a))

pub bad_row : (rs : List PeerProgress) (i : ℕ) (r s : PeerProgress) (index : ℕ) → At rs i r → s.id ≡ r.id → s.matched ≡ r.matched → s.next ≡ max (suc r.matched) (min (r.next - 1) (suc index)) → progress_of (set rs i s) ≡ after_ack (progress_of rs) r.id false index
bad_row rs i r s index a e m n =
    let k = match_at rs i r a in
    let q = next_at rs i r a in
    tables _ _ _ _ _ _ (ids_set rs i r s a e)
    (λ p. next_set rs i r s a e p ∙ ap (λ v. updated (next_in rs) r.id v p) (n ∙ ap (λ v. max (suc v) (min (r.next - 1) (suc index))) (sym k) ∙ ap (λ v. max (suc (match_in rs r.id)) (min (v - 1) (suc index))) (sym q)))
    (λ p. match_set rs i r s a e p ∙ same p)
    ∙ sym (cond-true (among (ids_in rs) r.id) (record (progress_of rs) { next_of = updated (next_in rs) r.id (max (suc (match_in rs r.id)) (min (next_in rs r.id - 1) (suc index))) }) (progress_of rs) (has_row rs i r a))
  where
    same : (p : ℕ) → updated (match_in rs) r.id s.matched p ≡ match_in rs p
    same p =
        ⊎_elim (λ (y : p ≡ r.id). cond-true (p == r.id) s.matched (match_in rs p) (eq-eqb _ _ y) ∙ m ∙ sym (ap (match_in rs) y ∙ match_at rs i r a))
        (λ (y : p ≢ r.id). cond-false (p == r.id) s.matched (match_in rs p) (ne_eqb _ _ y))
        (cases_eq p r.id)

pub no_row : (rs : List PeerProgress) (from : ℕ) (good : Bool) (index : ℕ) → among (ids_in rs) from ≡ false → progress_of rs ≡ after_ack (progress_of rs) from good index
no_row rs from true index e = sym (cond-false (among (ids_in rs) from) (record (progress_of rs) { next_of = updated (next_in rs) from (suc (max (match_in rs from) index)); match_of = updated (match_in rs) from (max (match_in rs from) index) }) (progress_of rs) e)
no_row rs from false index e = sym (cond-false (among (ids_in rs) from) (record (progress_of rs) { next_of = updated (next_in rs) from (max (suc (match_in rs from)) (min (next_in rs from - 1) (suc index))) }) (progress_of rs) e)
