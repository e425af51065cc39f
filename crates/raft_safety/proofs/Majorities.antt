-- Two majorities share a member.
use Rattle.std.proofs.Common.{◌≡◌, ◌⊎◌, inl, inr, ℕ, ◌+◌, ◌≤◌, Bool, true, false, cond, List, [], ◌∷◌, length, ap, ◌∙◌, ⊎_elim, arith}
use Rattle.std.specs.List.{count_by}
use Rattle.std.proofs.lemmas.Bool.{cases_Bool, cond-true, cond-false, ltb-true, lt-ltb}
use Rattle.std.proofs.lemmas.List.Sums.{sum_by-cons}
use Rattle.raft_spec.specs.Node.{majority}

pub count_yes : (p : ℕ → Bool) (v : ℕ) (vs : List ℕ) → p v ≡ true → count_by p (v ∷ vs) ≡ 1 + count_by p vs
count_yes p v vs a = let one : ℕ = 1 in sum_by-cons (λ x. cond (p x) 1 0) v vs ∙ ap (λ (n : ℕ). n + count_by p vs) (cond-true (p v) one 0 a)

pub count_no : (p : ℕ → Bool) (v : ℕ) (vs : List ℕ) → p v ≡ false → count_by p (v ∷ vs) ≡ 0 + count_by p vs
count_no p v vs a = let one : ℕ = 1 in sum_by-cons (λ x. cond (p x) 1 0) v vs ∙ ap (λ (n : ℕ). n + count_by p vs) (cond-false (p v) one 0 a)

pub count_up : (p : ℕ → Bool) (v : ℕ) (vs : List ℕ) → count_by p (v ∷ vs) ≤ 1 + count_by p vs
count_up p v vs =
    ⊎_elim (λ (a : p v ≡ true). omega (arith, count_yes p v vs a))
    (λ (a : p v ≡ false). omega (arith, count_no p v vs a))
    (cases_Bool (p v))

-- a voter who passes both tests, or too few pass them
pub both_or_few : (p q : ℕ → Bool) (vs : List ℕ) → ((x : ℕ) × (p x ≡ true) × (q x ≡ true)) ⊎ (count_by p vs + count_by q vs ≤ length vs)
both_or_few p q [] = inr (omega arith)
both_or_few p q (v ∷ vs) =
    ⊎_elim (λ (x : (x : ℕ) × (p x ≡ true) × (q x ≡ true)). inl x)
    (λ (few : count_by p vs + count_by q vs ≤ length vs).
    ⊎_elim
    (λ (a : p v ≡ true).
    ⊎_elim (λ (b : q v ≡ true). inl (v, a, b))
    (λ (b : q v ≡ false). inr (omega (arith, count_up p v vs, count_no q v vs b)))
    (cases_Bool (q v)))
    (λ (a : p v ≡ false). inr (omega (arith, count_no p v vs a, count_up q v vs)))
    (cases_Bool (p v)))
    (both_or_few p q vs)

pub majorities_meet : (vs : List ℕ) (p q : ℕ → Bool) → majority vs p ≡ true → majority vs q ≡ true → (x : ℕ) × (p x ≡ true) × (q x ≡ true)
unfolding majority
majorities_meet vs p q a b =
    ⊎_elim (λ (x : (x : ℕ) × (p x ≡ true) × (q x ≡ true)). x)
    (λ (few : count_by p vs + count_by q vs ≤ length vs). absurd (let m = ltb-true _ _ a in let n = ltb-true _ _ b in omega arith))
    (both_or_few p q vs)

count_mono : (vs : List ℕ) (p q : ℕ → Bool) → ((x : ℕ) → p x ≡ true → q x ≡ true) → count_by p vs ≤ count_by q vs
count_mono [] p q h = omega arith
count_mono (v ∷ vs) p q h =
    let ih = count_mono vs p q h in
    ⊎_elim
    (λ (a : p v ≡ true). omega (arith, count_yes p v vs a, count_yes q v vs (h v a)))
    (λ (a : p v ≡ false).
    ⊎_elim (λ (b : q v ≡ true). omega (arith, count_no p v vs a, count_yes q v vs b))
    (λ (b : q v ≡ false). omega (arith, count_no p v vs a, count_no q v vs b))
    (cases_Bool (q v)))
    (cases_Bool (p v))

pub majority_mono : (vs : List ℕ) (p q : ℕ → Bool) → ((x : ℕ) → p x ≡ true → q x ≡ true) → majority vs p ≡ true → majority vs q ≡ true
unfolding majority
majority_mono vs p q h a = lt-ltb _ _ (let m = ltb-true _ _ a in let c = count_mono vs p q h in omega arith)
