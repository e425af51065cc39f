-- Names that are among others, and a list of names without one of them.
use Rattle.std.proofs.Common.{◌≡◌, ◌≢◌, ℕ, zero, suc, ◌+◌, ◌<◌, Bool, true, false, cond, ◌⊎◌, inl, inr, List, [], ◌∷◌, length, get_or, sum_by, sym, ap, ◌∙◌, arith, true≢false, refl}
use Rattle.std.specs.Prelude.{bytes_eq}
use Rattle.std.specs.List.{Contains}
use Rattle.std.proofs.lemmas.List.Sums.{sum_by-cons}
use Rattle.std.proofs.lemmas.Slice.Eq.{bytes_eq-Decides}

-- the name is among these
abbrev pub IsIn : List ℕ → List (List ℕ) → Type 0
IsIn name [] = ⊥
IsIn name (other ∷ names) = (other ≡ name) ⊎ IsIn name names

pub at_place : (name : List ℕ) (names : List (List ℕ)) (k : ℕ) (d : List ℕ) → k < length names → get_or names k d ≡ name → IsIn name names
at_place name [] k d lt e = absurd (omega arith)
at_place name (n ∷ ns) zero d lt e = inl e
at_place name (n ∷ ns) (suc k) d lt e = inr (at_place name ns k d (omega arith) e)

pub is_in : (name : List ℕ) (names : List (List ℕ)) → Contains names name → IsIn name names
is_in name names c = at_place name names c.0 name c.1 c.2

-- ---- a list without a name

tested : (a b : List ℕ) (same : Bool) → bytes_eq a b ≡ same → ((bytes_eq a b ≡ true) × (a ≡ b)) ⊎ ((bytes_eq a b ≡ false) × (a ≢ b))
tested a b true e = inl (e, (bytes_eq-Decides a b).0 e)
tested a b false e = inr (e, λ p. true≢false (sym ((bytes_eq-Decides a b).1 p) ∙ e))

pub same_or_other : (a b : List ℕ) → ((bytes_eq a b ≡ true) × (a ≡ b)) ⊎ ((bytes_eq a b ≡ false) × (a ≢ b))
same_or_other a b = tested a b (bytes_eq a b) refl

abbrev pub without : List ℕ → List (List ℕ) → List (List ℕ)
without x [] = []
without x (y ∷ ys) = cond (bytes_eq y x) ys (y ∷ without x ys)

pub without_sum : (f : List ℕ → ℕ) (x : List ℕ) (ys : List (List ℕ)) → IsIn x ys → sum_by f ys ≡ f x + sum_by f (without x ys)
without_sum f x [] i = absurd i
without_sum f x (y ∷ ys) i =
    elim (same_or_other y x) [
      | inl p ↦ rw p.0 (sum_by-cons f y ys ∙ ap (λ (z : List ℕ). f z + sum_by f ys) p.1)
      | inr p ↦
          let j : IsIn x ys = elim i [ inl e ↦ absurd (p.1 e) | inr j ↦ j ] in
          let rest = without_sum f x ys j in
          rw p.0 (omega (arith, sum_by-cons f y ys, sum_by-cons f y (without x ys), rest))
    ]

pub without_other : (x n : List ℕ) (ys : List (List ℕ)) → x ≢ n → IsIn n ys → IsIn n (without x ys)
without_other x n [] other i = absurd i
without_other x n (y ∷ ys) other i =
    elim (same_or_other y x) [
      | inl p ↦ rw p.0 (elim i [ inl e ↦ absurd (other (sym p.1 ∙ e)) | inr j ↦ j ])
      | inr p ↦ rw p.0 (elim i [ inl e ↦ inl e | inr j ↦ inr (without_other x n ys other j) ])
    ]
