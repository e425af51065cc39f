-- What a change lists, where few pages differ.
use Rattle.std.proofs.Common.{◌≡◌, ℕ, zero, suc, ◌+◌, ◌*◌, ◌<◌, ◌≤◌, true, List, [], ◌∷◌, ◌++◌, Option, Some, None, refl, sym, ap, ◌∙◌, append_assoc, arith}
use Rattle.std.specs.Str.{bytes_eq}
use Rattle.std.proofs.lemmas.Slice.Eq.{bytes_eq-Decides}
use Rattle.dq_base.specs.declared.images.Image.{Image}
use Rattle.dq_base.specs.declared.pages.NumberedPage.{NumberedPage}
use Rattle.dq_base.specs.Images.{page_at}
use Rattle.dq_base.specs.Changes.{changed_page, changed_from, numbers_above_one, sizes_of, changed}
use Rattle.dq_base.proofs.ChangeLaw.{changed_is}

-- what a change lists at a number
abbrev pub here : Image → Image → ℕ → List NumberedPage
here a b n = changed_page n (page_at a n) (page_at b n)

-- it lists nothing there
abbrev pub Same : Image → Image → ℕ → Type 0
Same a b n = here a b n ≡ []

page_gone : (n : ℕ) (old : Option (List ℕ)) → changed_page n old None ≡ []
page_gone n old = refl

pub same_gone : (a b : Image) (n : ℕ) → page_at b n ≡ None → Same a b n
same_gone a b n e = ap (λ (o : Option (List ℕ)). changed_page n (page_at a n) o) e

pub same_there : (a b : Image) (n : ℕ) (page : List ℕ) → page_at a n ≡ Some page → page_at b n ≡ Some page → Same a b n
same_there a b n page was is =
    let same : bytes_eq page page ≡ true = (bytes_eq-Decides page page).1 refl in
    rw (was, is, same) refl

-- what a change lists at this many even numbers, from 2 p on
unfoldable pub evens : Image → Image → ℕ → ℕ → List NumberedPage
evens a b p zero = []
evens a b p (suc k) = here a b (2 * p) ++ evens a b (p + 1) k

-- if it lists nothing at odd numbers, it lists what it lists at the even ones
pub pairs : (a b : Image) (p k : ℕ) → ((q : ℕ) → p ≤ q → Same a b (2 * q + 1)) → changed_from (2 * p) (2 * k) a b ≡ evens a b p k
unfolding changed_from evens
pairs a b p zero odd = refl
pairs a b p (suc k) odd =
    let count : 2 * suc k ≡ suc (suc (2 * k)) = omega arith in
    let next : suc (2 * p) ≡ 2 * p + 1 = omega arith in
    let after : suc (suc (2 * p)) ≡ 2 * (p + 1) = omega arith in
    let rest : changed_from (2 * (p + 1)) (2 * k) a b ≡ evens a b (p + 1) k = pairs a b (p + 1) k (λ q le. odd q (omega arith)) in
    let none : here a b (suc (2 * p)) ≡ [] = ap (here a b) next ∙ odd p (omega arith) in
    ap (λ (n : ℕ). changed_from (2 * p) n a b) count
    ∙ ap (λ (ps : List NumberedPage). here a b (2 * p) ++ (ps ++ changed_from (suc (suc (2 * p))) (2 * k) a b)) none
    ∙ ap (λ (n : ℕ). here a b (2 * p) ++ changed_from n (2 * k) a b) after
    ∙ ap (λ (ps : List NumberedPage). here a b (2 * p) ++ ps) rest

pub evens_none : (a b : Image) (p k : ℕ) → ((q : ℕ) → p ≤ q → q < p + k → Same a b (2 * q)) → evens a b p k ≡ []
unfolding evens
evens_none a b p zero same = refl
evens_none a b p (suc k) same =
    ap (λ (ps : List NumberedPage). ps ++ evens a b (p + 1) k) (same p (omega arith) (omega arith)) ∙ evens_none a b (p + 1) k (λ q from to. same q (omega arith) (omega arith))

pub evens_join : (a b : Image) (p k l : ℕ) → evens a b p (k + l) ≡ evens a b p k ++ evens a b (p + k) l
unfolding evens
evens_join a b p zero l =
    let none : 0 + l ≡ l = omega arith in
    let place : p ≡ p + 0 = omega arith in
    ap (evens a b p) none ∙ ap (λ (q : ℕ). evens a b q l) place
evens_join a b p (suc k) l =
    let count : suc k + l ≡ suc (k + l) = omega arith in
    let place : p + 1 + k ≡ p + suc k = omega arith in
    ap (evens a b p) count
    ∙ ap (λ (ps : List NumberedPage). here a b (2 * p) ++ ps) (evens_join a b (p + 1) k l ∙ ap (λ (q : ℕ). evens a b (p + 1) k ++ evens a b q l) place)
    ∙ sym (append_assoc (here a b (2 * p)) (evens a b (p + 1) k) (evens a b (p + suc k) l))

-- a change that lists nothing at odd numbers from 5 on
pub changed_around : (a b : Image) (m : ℕ) → (a ≡ b → ⊥) → numbers_above_one b ≡ 2 * suc m → ((q : ℕ) → 2 ≤ q → Same a b (2 * q + 1))
    → changed a b ≡ (here a b 2 ++ (here a b 3 ++ evens a b 2 m)) ++ sizes_of b ∷ []
unfolding changed_from
changed_around a b m differ count odd =
    let two : 2 * suc m ≡ suc (suc (2 * m)) = omega arith in
    changed_is a b differ
    ∙ ap (λ (n : ℕ). changed_from 2 n a b ++ sizes_of b ∷ []) (count ∙ two)
    ∙ ap (λ (ps : List NumberedPage). (here a b 2 ++ (here a b 3 ++ ps)) ++ sizes_of b ∷ []) (pairs a b 2 m odd)

-- a change from an image to itself
pub changed_none : (a : Image) → changed a a ≡ []
unfolding changed
changed_none a =
    let main : bytes_eq a.main a.main ≡ true = (bytes_eq-Decides a.main a.main).1 refl in
    let side : bytes_eq a.side a.side ≡ true = (bytes_eq-Decides a.side a.side).1 refl in
    rw (main, side) refl
