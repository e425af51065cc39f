-- Distinct ids that are all among others are no more than those.
use Rattle.std.proofs.Common.{◌≡◌, ◌≢◌, ◌⊎◌, inl, inr, ℕ, suc, ◌<◌, ◌≤◌, Bool, true, false, cond, List, [], ◌∷◌, ◌++◌, length, refl, sym, ap, ◌∙◌, ⊎_elim, arith}
use Rattle.std.specs.Prelude.{◌==◌, ◌||◌}
use Rattle.std.proofs.lemmas.Bool.{or_left, or_right, or_parts, eqb-true, eqb-false, eq-eqb, ne_eqb, cond-true, cond-false, cases_eq}
use Rattle.raft_spec.specs.Node.{among}
use Rattle.raft_messages.specs.Grants.{AreDistinct, AreAmong}

-- these ids but one
abbrev without : ℕ → List ℕ → List ℕ
without x [] = []
without x (y ∷ ys) = cond (y == x) (without x ys) (y ∷ without x ys)

pub or_cases : (a b : Bool) → (a || b) ≡ true → (a ≡ true) ⊎ (b ≡ true)
or_cases true b e = inl refl
or_cases false b e = inr e

fewer_at : (b : Bool) (y n : ℕ) (rest : List ℕ) → length rest ≤ n → length (cond b rest (y ∷ rest)) ≤ suc n
fewer_at true y n rest h = omega (arith, h)
fewer_at false y n rest h = omega (arith, h)

fewer : (x : ℕ) (ids : List ℕ) → length (without x ids) ≤ length ids
fewer x [] = omega arith
fewer x (y ∷ ys) = fewer_at (y == x) y (length ys) (without x ys) (fewer x ys)

shorter_at : (b found : Bool) (y n : ℕ) (rest : List ℕ) → (b || found) ≡ true → length rest ≤ n → (found ≡ true → suc (length rest) ≤ n) → suc (length (cond b rest (y ∷ rest))) ≤ suc n
shorter_at true found y n rest e h ih = omega (arith, h)
shorter_at false found y n rest e h ih = let i : suc (length rest) ≤ n = ih e in omega (arith, i)

shorter : (x : ℕ) (ids : List ℕ) → among ids x ≡ true → suc (length (without x ids)) ≤ length ids
shorter x [] e = absurd cc
shorter x (y ∷ ys) e = shorter_at (y == x) (among ys x) y (length ys) (without x ys) e (fewer x ys) (shorter x ys)

kept : (x z : ℕ) (ids : List ℕ) → among ids z ≡ true → z ≢ x → among (without x ids) z ≡ true
kept x z [] e ne = absurd cc
kept x z (y ∷ ys) e ne =
    let found = or_cases (y == z) (among ys z) e in
    ⊎_elim
    (λ (same : y ≡ x).
    let gone : cond (y == x) (without x ys) (y ∷ without x ys) ≡ without x ys = cond-true (y == x) (without x ys) (y ∷ without x ys) (eq-eqb y x same) in
    let later : among ys z ≡ true = ⊎_elim (λ (f : (y == z) ≡ true). absurd (ne (sym (eqb-true y z f) ∙ same))) (λ (f : among ys z ≡ true). f) found in
    ap (λ (l : List ℕ). among l z) gone ∙ kept x z ys later ne)
    (λ (other : y ≢ x).
    let stays : cond (y == x) (without x ys) (y ∷ without x ys) ≡ y ∷ without x ys = cond-false (y == x) (without x ys) (y ∷ without x ys) (ne_eqb y x other) in
    let there : among (y ∷ without x ys) z ≡ true = ⊎_elim (λ (f : (y == z) ≡ true). or_left (y == z) (among (without x ys) z) f) (λ (f : among ys z ≡ true). or_right (y == z) (among (without x ys) z) (kept x z ys f ne)) found in
    ap (λ (l : List ℕ). among l z) stays ∙ there)
    (cases_eq y x)

-- distinct ids that are among others are no more than those
pub no_more : (xs ids : List ℕ) → AreDistinct xs → AreAmong xs ids → length xs ≤ length ids
no_more [] ids d a = omega arith
no_more (x ∷ xs) ids d a =
    let first : among ids x ≡ true = a x (or_left (x == x) (among xs x) (eq-eqb x x refl)) in
    let apart : (z : ℕ) → among xs z ≡ true → z ≢ x = λ z f same. let g : among xs x ≡ true = ap (among xs) (sym same) ∙ f in let h : among xs x ≡ false = d.0 in absurd cc in
    let others : AreAmong xs (without x ids) = λ z f. kept x z ids (a z (or_right (x == z) (among xs z) f)) (apart z f) in
    let less : length xs ≤ length (without x ids) = no_more xs (without x ids) d.1 others in
    let one : suc (length (without x ids)) ≤ length ids = shorter x ids first in
    omega (arith, less, one)

-- if one more can come, there is room for it
pub room : (xs ids : List ℕ) (x : ℕ) → AreDistinct xs → AreAmong xs ids → among ids x ≡ true → among xs x ≡ false → length xs < length ids
room xs ids x d a e f =
    let all : AreAmong (x ∷ xs) ids = λ z g. ⊎_elim (λ (same : (x == z) ≡ true). ap (among ids) (sym (eqb-true x z same)) ∙ e) (λ (h : among xs z ≡ true). a z h) (or_cases (x == z) (among xs z) g) in
    let more : suc (length xs) ≤ length ids = no_more (x ∷ xs) ids (f, d) all in
    omega (arith, more)

among_push : (xs : List ℕ) (x z : ℕ) → among (xs ++ x ∷ []) z ≡ true → (among xs z ≡ true) ⊎ (x ≡ z)
among_push [] x z e = ⊎_elim (λ (f : (x == z) ≡ true). inr (eqb-true x z f)) (λ (f : false ≡ true). absurd cc) (or_cases (x == z) false e)
among_push (y ∷ ys) x z e = ⊎_elim
    (λ (f : (y == z) ≡ true). inl (or_left (y == z) (among ys z) f))
    (λ (f : among (ys ++ x ∷ []) z ≡ true). ⊎_elim (λ (g : among ys z ≡ true). inl (or_right (y == z) (among ys z) g)) (λ (g : x ≡ z). inr g) (among_push ys x z f))
    (or_cases (y == z) (among (ys ++ x ∷ []) z) e)

-- with one more of them they stay among the others
pub among_more : (xs ids : List ℕ) (x : ℕ) → AreAmong xs ids → among ids x ≡ true → AreAmong (xs ++ x ∷ []) ids
among_more xs ids x a e = λ z f. ⊎_elim (λ (g : among xs z ≡ true). a z g) (λ (g : x ≡ z). ap (among ids) (sym g) ∙ e) (among_push xs x z f)

not_pushed : (xs : List ℕ) (x y : ℕ) (b : Bool) → among (xs ++ x ∷ []) y ≡ b → among xs y ≡ false → y ≢ x → b ≡ false
not_pushed xs x y false e f ne = refl
not_pushed xs x y true e f ne = ⊎_elim (λ (g : among xs y ≡ true). absurd cc) (λ (g : x ≡ y). absurd (ne (sym g))) (among_push xs x y e)

-- with another one they stay distinct
pub distinct_more : (xs : List ℕ) (x : ℕ) → AreDistinct xs → among xs x ≡ false → AreDistinct (xs ++ x ∷ [])
distinct_more [] x d f = (refl, tt)
distinct_more (y ∷ ys) x d f =
    let parts = or_parts (y == x) (among ys x) f in
    (not_pushed ys x y (among (ys ++ x ∷ []) y) refl d.0 (eqb-false y x parts.0), distinct_more ys x d.1 parts.1)
