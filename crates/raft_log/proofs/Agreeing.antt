-- How far entries agree, as a loop finds it.
use Rattle.std.proofs.Common.{◌≡◌, ◌≢◌, ◌⊎◌, inl, inr, ℕ, zero, suc, ◌+◌, ◌<◌, ◌≤◌, true, false, List, [], ◌∷◌, length, drop, refl, sym, ap, subst, ◌∙◌, ⊎_elim, arith}
use Rattle.std.specs.Prelude.{◌==◌}
use Rattle.std.proofs.lemmas.Bool.{cond_both, cond-true, cond-false, eqb-true, eqb-false}
use Rattle.raft_spec.specs.Log.{Entry, nth_term, conflict_place}
use Rattle.raft_spec.proofs.Merges.{Alike, conflict_none, conflict_here}
use Rattle.raft_log.specs.Agreeing.{has_term, agreeing_front}

-- an entry and its term
pub has_nth : (es : List Entry) (k term : ℕ) → k < length es → has_term es k term ≡ (nth_term es k == term)
has_nth [] k term l = absurd (omega arith)
has_nth (x ∷ xs) zero term l = refl
has_nth (x ∷ xs) (suc k) term l = has_nth xs k term (omega arith)

-- past the end there is none
pub has_none : (es : List Entry) (k term : ℕ) → length es ≤ k → has_term es k term ≡ false
has_none [] k term le = refl
has_none (x ∷ xs) zero term le = absurd (omega arith)
has_none (x ∷ xs) (suc k) term le = has_none xs k term (omega arith)

-- after a place
pub has_dropped : (p : ℕ) (es : List Entry) (k term : ℕ) → has_term (drop p es) k term ≡ has_term es (p + k) term
has_dropped zero es k term = let e : k ≡ 0 + k = omega arith in ap (λ n. has_term es n term) e
has_dropped (suc p) [] k term = refl
has_dropped (suc p) (x ∷ xs) k term = let e : suc (p + k) ≡ suc p + k = omega arith in has_dropped p xs k term ∙ ap (λ n. has_term (x ∷ xs) n term) e

-- it is no more than comes
pub front_within : (rs es : List Entry) → agreeing_front rs es ≤ length es
front_within [] es = omega arith
front_within (r ∷ rs) [] = omega arith
front_within (r ∷ rs) (e ∷ es) = cond_both (r.term == e.term) (suc (agreeing_front rs es)) 0 (λ n. n ≤ suc (length es)) (λ t. let ih = front_within rs es in omega arith) (λ f. omega arith)

-- one more that agrees
pub front_more : (rs es : List Entry) (n : ℕ) → n ≤ agreeing_front rs es → n < length es → has_term rs n (nth_term es n) ≡ true → suc n ≤ agreeing_front rs es
front_more [] es n le lt h = absurd cc
front_more (r ∷ rs) [] n le lt h = absurd (omega arith)
front_more (r ∷ rs) (e ∷ es) zero le lt h = subst (λ m. 1 ≤ m) (sym (cond-true (r.term == e.term) (suc (agreeing_front rs es)) 0 h)) (omega arith)
front_more (r ∷ rs) (e ∷ es) (suc n) le lt h =
    cond_both (r.term == e.term) (suc (agreeing_front rs es)) 0 (λ m. suc n ≤ m → suc (suc n) ≤ m)
    (λ t le. let ih = front_more rs es n (omega arith) (omega arith) h in omega arith)
    (λ f le. absurd (omega arith))
    le

-- at the first that doesn't it ends
pub front_here : (rs es : List Entry) (n : ℕ) → n ≤ agreeing_front rs es → n < length es → has_term rs n (nth_term es n) ≡ false → agreeing_front rs es ≡ n
front_here [] es n le lt h = omega arith
front_here (r ∷ rs) [] n le lt h = absurd (omega arith)
front_here (r ∷ rs) (e ∷ es) zero le lt h = cond-false (r.term == e.term) (suc (agreeing_front rs es)) 0 h
front_here (r ∷ rs) (e ∷ es) (suc n) le lt h =
    cond_both (r.term == e.term) (suc (agreeing_front rs es)) 0 (λ m. suc n ≤ m → m ≡ suc n)
    (λ t le. let ih = front_here rs es n (omega arith) (omega arith) h in omega arith)
    (λ f le. absurd (omega arith))
    le

-- nor more than stands
pub front_short : (rs es : List Entry) → agreeing_front rs es ≤ length rs
front_short [] es = omega arith
front_short (r ∷ rs) [] = omega arith
front_short (r ∷ rs) (e ∷ es) = cond_both (r.term == e.term) (suc (agreeing_front rs es)) 0 (λ n. n ≤ suc (length rs)) (λ t. let ih = front_short rs es in omega arith) (λ f. omega arith)

one_more : {m : ℕ} {r e : Entry} {rs es : List Entry} → r.term ≡ e.term → Alike m rs es → Alike (suc m) (r ∷ rs) (e ∷ es)
one_more {m} {r} {e} {rs} {es} q a = record { in_rest = let x = a.in_rest in omega arith; in_new = let x = a.in_new in omega arith; same = terms }
  where
    terms : (k : ℕ) → k < suc m → nth_term (r ∷ rs) k ≡ nth_term (e ∷ es) k
    terms zero l = q
    terms (suc k) l = a.same k (omega arith)

-- this many have the same terms
pub front_alike : (rs es : List Entry) → Alike (agreeing_front rs es) rs es
front_alike [] es = record { in_rest = omega arith; in_new = omega arith; same = λ k l. absurd (omega arith) }
front_alike (r ∷ rs) [] = record { in_rest = omega arith; in_new = omega arith; same = λ k l. absurd (omega arith) }
front_alike (r ∷ rs) (e ∷ es) = cond_both (r.term == e.term) (suc (agreeing_front rs es)) 0 (λ m. Alike m (r ∷ rs) (e ∷ es))
    (λ t. one_more (eqb-true _ _ t) (front_alike rs es))
    (λ f. record { in_rest = omega arith; in_new = omega arith; same = λ k l. absurd (omega arith) })

-- and there what stands ends, or the next differs
pub front_stops : (rs es : List Entry) → agreeing_front rs es < length es → (agreeing_front rs es ≡ length rs) ⊎ (nth_term rs (agreeing_front rs es) ≢ nth_term es (agreeing_front rs es))
front_stops [] es lt = inl refl
front_stops (r ∷ rs) [] lt = absurd (omega arith)
front_stops (r ∷ rs) (e ∷ es) lt =
    cond_both (r.term == e.term) (suc (agreeing_front rs es)) 0 (λ m. m < suc (length es) → (m ≡ suc (length rs)) ⊎ (nth_term (r ∷ rs) m ≢ nth_term (e ∷ es) m))
    (λ t l. ⊎_elim (λ (x : agreeing_front rs es ≡ length rs). inl (ap suc x)) (λ (x : nth_term rs (agreeing_front rs es) ≢ nth_term es (agreeing_front rs es)). inr x) (front_stops rs es (omega arith)))
    (λ f l. inr (eqb-false _ _ f))
    lt

-- if all that come agree, or those that stand end before, none conflicts
pub front_free : (rs es : List Entry) (n : ℕ) → n ≡ agreeing_front rs es → (n ≡ length es) ⊎ (n ≡ length rs) → conflict_place rs es ≡ 0
front_free rs es n e x = conflict_none n rs es (subst (λ m. Alike m rs es) (sym e) (front_alike rs es)) x

-- else the next conflicts
pub front_conflict : (rs es : List Entry) (n : ℕ) → n ≡ agreeing_front rs es → n < length es → n < length rs → conflict_place rs es ≡ suc n
front_conflict rs es n e l m =
    let a : Alike n rs es = subst (λ m. Alike m rs es) (sym e) (front_alike rs es) in
    let stop : (n ≡ length rs) ⊎ (nth_term rs n ≢ nth_term es n) = subst (λ m. m < length es → (m ≡ length rs) ⊎ (nth_term rs m ≢ nth_term es m)) (sym e) (front_stops rs es) l in
    ⊎_elim (λ (z : n ≡ length rs). absurd (omega arith)) (λ (z : nth_term rs n ≢ nth_term es n). conflict_here n rs es a m l z) stop
