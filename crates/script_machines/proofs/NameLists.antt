-- Lists of names in which none occurs twice.
use Rattle.std.proofs.Common.{◌≡◌, ◌≢◌, ℕ, zero, suc, ◌<◌, ◌⊎◌, inl, inr, List, [], ◌∷◌, length, sum_by, refl, sym, subst, arith}
use Rattle.std.specs.List.{AllPairs, Contains}
use Rattle.std.proofs.lemmas.List.Sums.{sum_by-cons}
use Rattle.log_commands.proofs.NamesAmong.{IsIn, at_place, same_or_other, without, without_sum, without_other}

-- no name occurs twice
abbrev pub AreDistinct : List (List ℕ) → Type 0
AreDistinct [] = Unit {0}
AreDistinct (name ∷ names) = (IsIn name names → ⊥) × AreDistinct names

-- ---- by places

pub contains : (name : List ℕ) (names : List (List ℕ)) → IsIn name names → Contains names name
contains name [] i = absurd i
contains name (n ∷ ns) (inl e) = (0, omega arith, e)
contains name (n ∷ ns) (inr i) = let c = contains name ns i in let lt : c.0 < length ns = c.1 in (suc c.0, omega arith, c.2)

pub apart : (names : List (List ℕ)) → AreDistinct names → AllPairs (λ one other. one ≢ other) names
apart [] h i j d lt within = absurd (omega arith)
apart (n ∷ ns) h zero zero d lt within = absurd (omega arith)
apart (n ∷ ns) h zero (suc j) d lt within = λ e. h.0 (at_place n ns j d (omega arith) (sym e))
apart (n ∷ ns) h (suc i) zero d lt within = absurd (omega arith)
apart (n ∷ ns) h (suc i) (suc j) d lt within = apart ns h.1 i j d (omega arith) (omega arith)

pub distinct : (names : List (List ℕ)) → AllPairs (λ one other. one ≢ other) names → AreDistinct names
distinct [] h = tt
distinct (n ∷ ns) h = (
  λ i. let c = contains n ns i in let lt : c.0 < length ns = c.1 in h 0 (suc c.0) n (omega arith) (omega arith) (sym c.2),
  distinct ns (λ i j d lt within. h (suc i) (suc j) d (omega arith) (omega arith)),
)

-- ---- a list without a name

without_in : (x n : List ℕ) (ys : List (List ℕ)) → IsIn n (without x ys) → IsIn n ys
without_in x n [] i = absurd i
without_in x n (y ∷ ys) i =
    elim (same_or_other y x) [
      | inl p ↦ inr (rw p.0 at i)
      | inr p ↦
          let j : (y ≡ n) ⊎ IsIn n (without x ys) = rw p.0 at i in
          elim j [ inl e ↦ inl e | inr k ↦ inr (without_in x n ys k) ]
    ]

without_gone : (x : List ℕ) (ys : List (List ℕ)) → AreDistinct ys → IsIn x (without x ys) → ⊥
without_gone x [] d i = i
without_gone x (y ∷ ys) d i =
    elim (same_or_other y x) [
      | inl p ↦ d.0 (subst (λ (z : List ℕ). IsIn z ys) (sym p.1) (rw p.0 at i))
      | inr p ↦
          let j : (y ≡ x) ⊎ IsIn x (without x ys) = rw p.0 at i in
          elim j [ inl e ↦ p.1 e | inr k ↦ without_gone x ys d.1 k ]
    ]

without_distinct : (x : List ℕ) (ys : List (List ℕ)) → AreDistinct ys → AreDistinct (without x ys)
without_distinct x [] d = tt
without_distinct x (y ∷ ys) d =
    elim (same_or_other y x) [
      | inl p ↦ rw p.0 d.1
      | inr p ↦ rw p.0 (λ i. d.0 (without_in x y ys i), without_distinct x ys d.1)
    ]

-- ---- two lists of the same names

pub same_sum : (f : List ℕ → ℕ) (xs ys : List (List ℕ)) → AreDistinct xs → AreDistinct ys → ((n : List ℕ) → IsIn n xs → IsIn n ys) → ((n : List ℕ) → IsIn n ys → IsIn n xs)
    → sum_by f xs ≡ sum_by f ys
same_sum f [] [] dx dy to from = refl
same_sum f [] (y ∷ ys) dx dy to from = absurd (from y (inl refl))
same_sum f (x ∷ xs) ys dx dy to from =
    let rest = same_sum f xs (without x ys) dx.1 (without_distinct x ys dy)
    (λ n j. without_other x n ys (λ e. dx.0 (subst (λ (z : List ℕ). IsIn z xs) (sym e) j)) (to n (inr j)))
    (λ n j. elim (from n (without_in x n ys j)) [ inl e ↦ absurd (without_gone x ys dy (subst (λ (z : List ℕ). IsIn z (without x ys)) (sym e) j)) | inr k ↦ k ]) in
    omega (arith, sum_by-cons f x xs, without_sum f x ys (to x (inl refl)), rest)

pub length_is_sum : (xs : List (List ℕ)) → length xs ≡ sum_by (λ x. 1) xs
length_is_sum [] = refl
length_is_sum (x ∷ xs) = let e = length_is_sum xs in omega (arith, e, sum_by-cons (λ x. 1) x xs)
