-- What an Append leaves of a log, as a loop finds it: it counts the entries that agree, and stops at the first that doesn't.
use Rattle.std.proofs.Common.{◌≡◌, ◌≢◌, ◌⊎◌, inl, inr, ℕ, zero, suc, ◌<◌, ◌≤◌, List, [], ◌∷◌, ◌++◌, length, take, drop, refl, ap, ◌∙◌, ⊎_elim, arith}
use Rattle.std.specs.Prelude.{◌==◌, cond}
use Rattle.std.proofs.lemmas.Bool.{cond-true, cond-false, eq-eqb, ne_eqb}
use Rattle.raft_spec.specs.Log.{Entry, nth_term, merged, conflict_place}

-- the first n entries of both have the same terms
pub record Alike (n : ℕ) (rest es : List Entry) : Type 0 where
  pub in_rest : n ≤ length rest
  pub in_new : n ≤ length es
  pub same : (k : ℕ) → k < n → nth_term rest k ≡ nth_term es k

alike_tail : {n : ℕ} {r e : Entry} {rs es : List Entry} → Alike (suc n) (r ∷ rs) (e ∷ es) → Alike n rs es
alike_tail a = record { in_rest = let x = a.in_rest in omega arith; in_new = let x = a.in_new in omega arith; same = λ k l. a.same (suc k) (omega arith) }

-- all new entries agree: the log stays
pub merged_stays : (rest es : List Entry) → Alike (length es) rest es → merged rest es ≡ rest
unfolding merged
merged_stays rest [] a = refl
merged_stays [] (e ∷ es) a = absurd (let x = a.in_rest in omega arith)
merged_stays (r ∷ rs) (e ∷ es) a = cond-true (r.term == e.term) (r ∷ merged rs es) (e ∷ es) (eq-eqb _ _ (a.same 0 (omega arith))) ∙ ap (λ l. r ∷ l) (merged_stays rs es (alike_tail a))

-- the first n agree, and there the log ends or the next differs: it keeps these n, and gets the rest
pub merged_moves : (n : ℕ) (rest es : List Entry) → Alike n rest es → n < length es → (n ≡ length rest) ⊎ (nth_term rest n ≢ nth_term es n) → merged rest es ≡ take n rest ++ drop n es
unfolding merged
merged_moves n rest [] a lt x = absurd (omega arith)
merged_moves zero [] (e ∷ es) a lt x = refl
merged_moves (suc n) [] (e ∷ es) a lt x = absurd (let y = a.in_rest in omega arith)
merged_moves zero (r ∷ rs) (e ∷ es) a lt x =
    ⊎_elim (λ (z : 0 ≡ suc (length rs)). absurd (omega arith)) (λ (z : r.term ≢ e.term). cond-false (r.term == e.term) (r ∷ merged rs es) (e ∷ es) (ne_eqb _ _ z)) x
merged_moves (suc n) (r ∷ rs) (e ∷ es) a lt x =
    cond-true (r.term == e.term) (r ∷ merged rs es) (e ∷ es) (eq-eqb _ _ (a.same 0 (omega arith))) ∙ ap (λ l. r ∷ l) (merged_moves n rs es (alike_tail a) (omega arith) (⊎_elim (λ (z : suc n ≡ suc (length rs)). inl (omega arith)) (λ (z : nth_term (r ∷ rs) (suc n) ≢ nth_term (e ∷ es) (suc n)). inr z) x))

-- nothing is replaced where all new entries agree, or the log ends before one differs
pub conflict_none : (n : ℕ) (rest es : List Entry) → Alike n rest es → (n ≡ length es) ⊎ (n ≡ length rest) → conflict_place rest es ≡ 0
unfolding conflict_place
conflict_none n rest [] a x = refl
conflict_none n [] (e ∷ es) a x = refl
conflict_none zero (r ∷ rs) (e ∷ es) a x = absurd (⊎_elim (λ (z : 0 ≡ suc (length es)). omega arith) (λ (z : 0 ≡ suc (length rs)). omega arith) x)
conflict_none (suc n) (r ∷ rs) (e ∷ es) a x =
    let ih = conflict_none n rs es (alike_tail a) (⊎_elim (λ (z : suc n ≡ suc (length es)). inl (omega arith)) (λ (z : suc n ≡ suc (length rs)). inr (omega arith)) x) in
    cond-true (r.term == e.term) (cond (conflict_place rs es == 0) 0 (suc (conflict_place rs es))) 1 (eq-eqb _ _ (a.same 0 (omega arith))) ∙ cond-true (conflict_place rs es == 0) 0 (suc (conflict_place rs es)) (eq-eqb _ _ ih)

-- the place of the first that differs
pub conflict_here : (n : ℕ) (rest es : List Entry) → Alike n rest es → n < length rest → n < length es → nth_term rest n ≢ nth_term es n → conflict_place rest es ≡ suc n
unfolding conflict_place
conflict_here n rest [] a l m x = absurd (omega arith)
conflict_here n [] (e ∷ es) a l m x = absurd (omega arith)
conflict_here zero (r ∷ rs) (e ∷ es) a l m x = cond-false (r.term == e.term) (cond (conflict_place rs es == 0) 0 (suc (conflict_place rs es))) 1 (ne_eqb _ _ x)
conflict_here (suc n) (r ∷ rs) (e ∷ es) a l m x =
    let ih = conflict_here n rs es (alike_tail a) (omega arith) (omega arith) x in
    cond-true (r.term == e.term) (cond (conflict_place rs es == 0) 0 (suc (conflict_place rs es))) 1 (eq-eqb _ _ (a.same 0 (omega arith))) ∙ cond-false (conflict_place rs es == 0) 0 (suc (conflict_place rs es)) (ne_eqb _ _ (λ z. omega arith)) ∙ ap suc ih
