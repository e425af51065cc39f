-- The least number of a stretch: of one place, of two stretches, and of a place below which nothing is truncated.
use Rattle.std.proofs.Common.{◌≡◌, ℕ, zero, suc, ◌+◌, ◌-◌, ◌<◌, ◌≤◌, ◌⊎◌, min, List, ◌∷◌, ◌++◌, length, refl, sym, ap, arith, inl, inr}
use Rattle.std.specs.Prelude.{◌↔◌}
use Rattle.std.proofs.lemmas.Bool.{cases_lt}
use Rattle.std.proofs.lemmas.List.{get_or_append_left}
use Rattle.dq_base.specs.declared.sizes.Lengths.{Lengths}
use Rattle.page_store.specs.Laying.{length_of, length_at, no_lengths}
use Rattle.page_store.specs.Log.{LooksBack}

abbrev pub Least : (ℕ → ℕ) → ℕ → ℕ → ℕ → Type 0
Least g first last least = (k : ℕ) → (k ≤ least) ↔ ((i : ℕ) → first ≤ i → i ≤ last → k ≤ g i)

pub least_one : (g : ℕ → ℕ) (at : ℕ) → Least g at at (g at)
least_one g at k =
    (λ h i from to. let same : i ≡ at = omega arith in let value : g i ≡ g at = ap g same in omega arith, λ f. f at (omega arith) (omega arith))

pub least_at : (g : ℕ → ℕ) (first last first' last' least : ℕ) → first ≡ first' → last ≡ last' → Least g first last least → Least g first' last' least
least_at g first last first' last' least e f l k = (λ h i from to. (l k).0 h i (omega arith) (omega arith), λ r. (l k).1 (λ i from to. r i (omega arith) (omega arith)))

-- one stretch right after another
pub least_join : (g : ℕ → ℕ) (first middle last x y : ℕ) → first < middle → middle ≤ last → Least g first (middle - 1) x → Least g middle last y → Least g first last (min x y)
least_join g first middle last x y below within front back k = (
  λ h i from to. elim (cases_lt i middle) [
    | inl before ↦ (front k).0 (omega arith) i from (omega arith)
    | inr behind ↦ (back k).0 (omega arith) i behind to
  ],
  λ f.
      let low : k ≤ x = (front k).1 (λ i from to. f i from (omega arith)) in
      let high : k ≤ y = (back k).1 (λ i from to. f i (omega arith) to) in
      omega arith,
)

pub least_same : (g h : ℕ → ℕ) (first last least : ℕ) → ((i : ℕ) → first ≤ i → i ≤ last → g i ≡ h i) → Least g first last least → Least h first last least
least_same g h first last least same l k = (
  λ le i from to. let value : g i ≡ h i = same i from to in let below : k ≤ g i = (l k).0 le i from to in omega arith,
  λ f. (l k).1 (λ i from to. let value : g i ≡ h i = same i from to in let below : k ≤ h i = f i from to in omega arith),
)

pub least_shift : (g h : ℕ → ℕ) (first last least : ℕ) → ((i : ℕ) → g (suc i) ≡ h i) → Least g (suc first) (suc last) least → Least h first last least
least_shift g h first last least same l k = (
  λ le i from to. let value : g (suc i) ≡ h i = same i in let below : k ≤ g (suc i) = (l k).0 le (suc i) (omega arith) (omega arith) in omega arith,
  λ f. (l k).1 (each f),
)
  where
    each : ((i : ℕ) → first ≤ i → i ≤ last → k ≤ h i) → (i : ℕ) → suc first ≤ i → i ≤ suc last → k ≤ g i
    each f zero from to = absurd (omega arith)
    each f (suc i) from to = let value : g (suc i) ≡ h i = same i in let below : k ≤ h i = f i (omega arith) (omega arith) in omega arith

-- two stretches of a list before its next place, and that place
pub least_three : (g : ℕ → ℕ) (n b b' x y : ℕ) → 1 ≤ b → 1 ≤ b' → b < n → (b ≤ n - 1 + 1 → Least g (n - 1 + 1 - b) (n - 1) x) → (b' ≤ n - 1 - b + 1 → Least g (n - 1 - b + 1 - b') (n - 1 - b) y)
    → 1 + b + b' ≤ n + 1 → Least g (n + 1 - (1 + b + b')) n (min (min y x) (g n))
least_three g n b b' x y from from' inside last before fits =
    let one : Least g (n - b - b') (n - b - 1) y = least_at g (n - 1 - b + 1 - b') (n - 1 - b) (n - b - b') (n - b - 1) y (omega arith) (omega arith) (before (omega arith)) in
    let two : Least g (n - b) (n - 1) x = least_at g (n - 1 + 1 - b) (n - 1) (n - b) (n - 1) x (omega arith) refl (last (omega arith)) in
    let both : Least g (n - b - b') (n - 1) (min y x) = least_join g (n - b - b') (n - b) (n - 1) y x (omega arith) (omega arith) one two in
    let all : Least g (n - b - b') n (min (min y x) (g n)) = least_join g (n - b - b') n n (min y x) (g n) (omega arith) (omega arith) both (least_one g n) in
    least_at g (n - b - b') n (n + 1 - (1 + b + b')) n (min (min y x) (g n)) (omega arith) refl all

-- ---- lists of lengths

pub length_at-left : (parity : ℕ) (xs ys : List Lengths) (i : ℕ) → i < length xs → length_at parity (xs ++ ys) i ≡ length_at parity xs i
length_at-left parity xs ys i lt = ap (length_of parity) (get_or_append_left xs ys no_lengths i lt)

pub looks_longer : (xs ys : List Lengths) (i back : ℕ) (least : Lengths) → i < length xs → LooksBack xs i back least → LooksBack (xs ++ ys) i back least
looks_longer xs ys i back least lt was = record {
  from_one = was.from_one;
  main = λ fits. least_same (length_at 0 xs) (length_at 0 (xs ++ ys)) (i + 1 - back) i least.main (λ j from to. sym (length_at-left 0 xs ys j (omega arith))) (was.main fits);
  side = λ fits. least_same (length_at 1 xs) (length_at 1 (xs ++ ys)) (i + 1 - back) i least.side (λ j from to. sym (length_at-left 1 xs ys j (omega arith))) (was.side fits);
}

pub looks_shorter : (xs ys : List Lengths) (i back : ℕ) (least : Lengths) → i < length xs → LooksBack (xs ++ ys) i back least → LooksBack xs i back least
looks_shorter xs ys i back least lt was = record {
  from_one = was.from_one;
  main = λ fits. least_same (length_at 0 (xs ++ ys)) (length_at 0 xs) (i + 1 - back) i least.main (λ j from to. length_at-left 0 xs ys j (omega arith)) (was.main fits);
  side = λ fits. least_same (length_at 1 (xs ++ ys)) (length_at 1 xs) (i + 1 - back) i least.side (λ j from to. length_at-left 1 xs ys j (omega arith)) (was.side fits);
}

pub looks_later : (x : Lengths) (xs : List Lengths) (i back : ℕ) (least : Lengths) → LooksBack (x ∷ xs) (suc i) back least → LooksBack xs i back least
looks_later x xs i back least was = let from : 1 ≤ back = was.from_one in record {
  from_one = from;
  main = λ fits.
      least_shift (length_at 0 (x ∷ xs)) (length_at 0 xs) (i + 1 - back) i least.main (λ j. refl)
      (least_at (length_at 0 (x ∷ xs)) (suc i + 1 - back) (suc i) (suc (i + 1 - back)) (suc i) least.main (omega arith) refl (was.main (omega arith)));
  side = λ fits.
      least_shift (length_at 1 (x ∷ xs)) (length_at 1 xs) (i + 1 - back) i least.side (λ j. refl)
      (least_at (length_at 1 (x ∷ xs)) (suc i + 1 - back) (suc i) (suc (i + 1 - back)) (suc i) least.side (omega arith) refl (was.side (omega arith)));
}

-- ---- a number is at most all of a stretch, or above one of them

pub all_or_some : (g : ℕ → ℕ) (first n k : ℕ) → ((i : ℕ) → first ≤ i → i < first + n → k ≤ g i) ⊎ ((i : ℕ) × (first ≤ i) × (i < first + n) × (g i < k))
all_or_some g first zero k = inl (λ i from to. absurd (omega arith))
all_or_some g first (suc n) k =
    elim (all_or_some g first n k) [
      | inr some ↦ let below : some.0 < first + n = some.2 in inr (some.0, some.1, omega arith, some.3)
      | inl all ↦ elim (cases_lt (g (first + n)) k) [
        | inl lt ↦ inr (first + n, omega arith, omega arith, lt)
        | inr le ↦ inl (λ i from to. elim (cases_lt i (first + n)) [
          | inl before ↦ all i from before
          | inr at ↦ let same : i ≡ first + n = omega arith in let value : g i ≡ g (first + n) = ap g same in omega arith
        ])
      ]
    ]

-- a number above the least is above one of the stretch
pub some_below : (g : ℕ → ℕ) (first last least k : ℕ) → first ≤ last → Least g first last least → least < k → (i : ℕ) × (first ≤ i) × (i ≤ last) × (g i < k)
some_below g first last least k order is above =
    elim (all_or_some g first (last + 1 - first) k) [
      | inl all ↦ let le : k ≤ least = (is k).1 (λ i from to. all i from (omega arith)) in absurd (omega arith)
      | inr some ↦ let to : some.0 < first + (last + 1 - first) = some.2 in (some.0, some.1, omega arith, some.3)
    ]
