-- At how many places two texts differ.
use Rattle.std.proofs.Common.{◌≡◌, ◌+◌, ◌<◌, ◌==◌, Bool, true, false, ℕ, zero, suc, List, [], ◌∷◌, length, take, get_or, cond, not, ◌≤◌, slice_index, refl, ap, ◌∙◌, arith}
use Rattle.std.proofs.Common.{le_of_suc-le-suc, not-suc-le-zero}
use Rattle.std.proofs.lemmas.Bool.{and_parts, eqb-true}
use Rattle.std.proofs.lemmas.List.{take_all}
use Rattle.std.specs.Int.{from_bool}
use Rattle.peer_secret.specs.Same.{differing, same_bytes}

pub difference_is : (b : Bool) → from_bool (not b) ≡ cond b 0 1
difference_is true = refl
difference_is false = refl

pub difference_bound : (b : Bool) → from_bool b ≤ 1
difference_bound true = omega arith
difference_bound false = omega arith

pub none_differs : ◌≡◌ {A = ℕ} 0 (differing [] [])
unfolding differing
none_differs = refl

differing_suc : (left right : List ℕ) (i d e : ℕ) → i < length left → i < length right →
    differing (take (suc i) left) (take (suc i) right) ≡ differing (take i left) (take i right) + cond (get_or left i d == get_or right i e) 0 1
unfolding differing
differing_suc [] right i d e within other = absurd (not-suc-le-zero within)
differing_suc (x ∷ left) [] i d e within other = absurd (not-suc-le-zero other)
differing_suc (x ∷ left) (y ∷ right) zero d e within other = omega arith
differing_suc (x ∷ left) (y ∷ right) (suc i) d e within other =
    let more : differing (take (suc i) left) (take (suc i) right) ≡ differing (take i left) (take i right) + cond (get_or left i d == get_or right i e) 0 1
    = differing_suc left right i d e (le_of_suc-le-suc within) (le_of_suc-le-suc other) in
    omega arith

pub one_more : (left right : List ℕ) (i count d : ℕ) → count ≡ differing (take i left) (take i right) → i < length left → length left ≡ length right →
    d ≡ cond (slice_index left i == slice_index right i) 0 1 → count + d ≡ differing (take (i + 1) left) (take (i + 1) right)
one_more left right i count d counted within long is =
    let on : i + 1 ≡ suc i = omega arith in
    let more : differing (take (suc i) left) (take (suc i) right) ≡ differing (take i left) (take i right) + cond (slice_index left i == slice_index right i) 0 1
    = differing_suc left right i 0 0 within (omega arith) in
    let same : differing (take (i + 1) left) (take (i + 1) right) ≡ differing (take (suc i) left) (take (suc i) right)
    = ap (λ (n : ℕ). differing (take n left) (take n right)) on in
    omega arith

pub all_looked_at : (left right : List ℕ) (n : ℕ) → n ≡ length left → n ≡ length right → differing (take n left) (take n right) ≡ differing left right
all_looked_at left right n l r = ap (λ (x : List ℕ). differing x (take n right)) (take_all n left (omega arith)) ∙ ap (differing left) (take_all n right (omega arith))

joins : (x y : ℕ) (left right : List ℕ) (b : Bool) → (x == y) ≡ b → cond b 0 1 + differing left right ≡ 0 → (differing left right ≡ 0 → left ≡ right) →
    x ∷ left ≡ y ∷ right
joins x y left right true e none tails =
    let rest : left ≡ right = tails (omega arith) in
    λ i. eqb-true x y e i ∷ rest i
joins x y left right false e none tails = absurd (omega arith)

equal_texts : (left right : List ℕ) → length left ≡ length right → differing left right ≡ 0 → left ≡ right
unfolding differing
equal_texts [] [] long none = refl
equal_texts [] (y ∷ right) long none = absurd cc
equal_texts (x ∷ left) [] long none = absurd cc
equal_texts (x ∷ left) (y ∷ right) long none = joins x y left right (x == y) refl none (equal_texts left right (omega arith))

-- texts that count as the same are equal
pub same_text : (left right : List ℕ) → same_bytes left right ≡ true → left ≡ right
same_text left right same =
    let parts = and_parts (length left == length right) (differing left right == 0) same in
    equal_texts left right (eqb-true (length left) (length right) parts.0) (eqb-true (differing left right) 0 parts.1)
