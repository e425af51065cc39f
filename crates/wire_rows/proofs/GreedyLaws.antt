-- What the cut means: no row is lost, and each part is as long as it can be.
use Rattle.std.proofs.Common.{◌≡◌, ◌⊎◌, inl, inr, ◌-◌, ◌<◌, ◌≤◌, ℕ, zero, suc, max, Bool, true, false, cond, List, [], ◌∷◌, ◌++◌, length, take, drop, refl, sym, ap, subst, ◌∙◌, arith}
use Rattle.std.proofs.lemmas.List.{append-nil, take-append-drop, length-take, length-drop}
use Rattle.std.proofs.lemmas.Bool.Decides.{leb_tells}
use Rattle.wire_words.specs.declared.value.Value.{Value}
use Rattle.wire_rows.specs.Cut.{Rows, has_room, largest, first_count, where_any, cut_in, cut, joined, IsFull, AreGreedy}
use Rattle.wire_rows.proofs.Greedy.{one_at_least}
use Rattle.wire_rows.proofs.Cutting.{rest_shorter}

-- ---- no row is lost

joined_any : (rest : Rows) (parts : List Rows) → joined parts ≡ rest → joined (where_any rest parts) ≡ rest
joined_any [] parts is = refl
joined_any (r ∷ rest) parts is = is

joined_in : (n : ℕ) (columns : List (List ℕ)) (rows : Rows) → joined (cut_in n columns rows) ≡ rows
joined_in zero columns rows = append-nil rows
joined_in (suc n) columns rows =
    let k = first_count columns rows in
    let rest : joined (where_any (drop k rows) (cut_in n columns (drop k rows))) ≡ drop k rows = joined_any (drop k rows) (cut_in n columns (drop k rows)) (joined_in n columns (drop k rows)) in
    ap (λ (left : Rows). take k rows ++ left) rest ∙ take-append-drop k rows

pub all_rows : (columns : List (List ℕ)) (rows : Rows) → joined (cut columns rows) ≡ rows
unfolding cut
all_rows columns rows = joined_in (length rows) columns rows

-- ---- each part is as long as it can be

choice : (passes : ℕ → Bool) (m l : ℕ) (b : Bool) → passes m ≡ b → (passes l ≡ true) ⊎ (l ≡ 0) → (passes (cond b m l) ≡ true) ⊎ (cond b m l ≡ 0)
choice passes m l true is below = inl is
choice passes m l false is below = below

-- the largest number passes, or is 0
largest_passes : (passes : ℕ → Bool) (n : ℕ) → (passes (largest passes n) ≡ true) ⊎ (largest passes n ≡ 0)
largest_passes passes zero = inr refl
largest_passes passes (suc n) = choice passes (suc n) (largest passes n) (passes (suc n)) refl (largest_passes passes n)

above_at : (passes : ℕ → Bool) (n k : ℕ) (b : Bool) → passes (suc n) ≡ b → cond b (suc n) (largest passes n) < k → k ≤ suc n → (largest passes n < k → k ≤ n → passes k ≡ false) → passes k ≡ false
above_at passes n k true is above within behind = absurd (omega arith)
above_at passes n k false is above within behind =
    elim (leb_tells k n) [
      | inl w ↦ behind above w.1
      | inr w ↦ let more : n < k = w.1 in let same : k ≡ suc n = omega arith in ap passes same ∙ is
    ]

-- and above it none does
above_fails : (passes : ℕ → Bool) (n k : ℕ) → largest passes n < k → k ≤ n → passes k ≡ false
above_fails passes zero k above within = absurd (omega arith)
above_fails passes (suc n) k above within = above_at passes n k (passes (suc n)) refl above within (above_fails passes n k)

first_fits : (columns : List (List ℕ)) (rows : Rows) → (has_room columns (take (first_count columns rows) rows) ≡ true) ⊎ (length (take (first_count columns rows) rows) ≤ 1)
unfolding first_count
first_fits columns rows =
    let passes : ℕ → Bool = λ n. has_room columns (take n rows) in
    let l = largest passes (length rows) in
    elim (leb_tells 1 l) [
      | inl w ↦ let some : 1 ≤ l = w.1 in let same : max 1 l ≡ l = omega arith in
          elim (largest_passes passes (length rows)) [ inl fits ↦ inl (ap passes same ∙ fits) | inr none ↦ absurd (omega arith) ]
      | inr w ↦ let none : l < 1 = w.1 in let same : max 1 l ≡ 1 = omega arith in
          inr (subst (λ (k : ℕ). length (take k rows) ≤ 1) (sym same) (let size = length-take 1 rows in omega arith))
    ]

-- the first rows, one more
one_more : (k : ℕ) (rows rest : Rows) (values : List Value) → drop k rows ≡ values ∷ rest → take (suc k) rows ≡ take k rows ++ values ∷ []
one_more zero [] rest values is = absurd cc
one_more zero (r ∷ rows) rest values is = let same : r ≡ values = cc in ap (λ (v : List Value). v ∷ []) same
one_more (suc k) [] rest values is = absurd cc
one_more (suc k) (r ∷ rows) rest values is = ap (λ (rs : Rows). r ∷ rs) (one_more k rows rest values is)

first_full : (columns : List (List ℕ)) (rows rest : Rows) (values : List Value) → drop (first_count columns rows) rows ≡ values ∷ rest → has_room columns (take (first_count columns rows) rows ++ values ∷ []) ≡ false
unfolding first_count
first_full columns rows rest values is =
    let passes : ℕ → Bool = λ n. has_room columns (take n rows) in
    let l = largest passes (length rows) in
    let k = max 1 l in
    let size : length rows - k ≡ suc (length rest) = sym (length-drop k rows) ∙ ap length is in
    let more : passes (suc k) ≡ false = above_fails passes (length rows) (suc k) (omega arith) (omega arith) in
    ap (has_room columns) (sym (one_more k rows rest values is)) ∙ more

full_cons : (columns : List (List ℕ)) (part : Rows) (r : List Value) (rest : Rows) (k : ℕ) → 1 ≤ k → (parts : List Rows) → has_room columns (part ++ r ∷ []) ≡ false → IsFull columns part (take k (r ∷ rest) ∷ parts)
full_cons columns part r rest zero some parts full = absurd (omega arith)
full_cons columns part r rest (suc k) some parts full = full

full_any : (n : ℕ) (columns : List (List ℕ)) (part rest : Rows) → ((values : List Value) (others : Rows) → rest ≡ values ∷ others → has_room columns (part ++ values ∷ []) ≡ false)
    → IsFull columns part (where_any rest (cut_in n columns rest))
full_any n columns part [] full = tt
full_any zero columns part (r ∷ rest) full = full r rest refl
full_any (suc n) columns part (r ∷ rest) full = full_cons columns part r rest (first_count columns (r ∷ rest)) (one_at_least columns (r ∷ rest)) _ (full r rest refl)

greedy_any : (columns : List (List ℕ)) (rest : Rows) (parts : List Rows) → AreGreedy columns parts → AreGreedy columns (where_any rest parts)
greedy_any columns [] parts greedy = tt
greedy_any columns (r ∷ rest) parts greedy = greedy

greedy_in : (n : ℕ) (columns : List (List ℕ)) (rows : Rows) → length rows ≤ n → AreGreedy columns (cut_in n columns rows)
greedy_in zero columns rows le = (inr (omega arith), tt, tt)
greedy_in (suc n) columns rows le =
    let k = first_count columns rows in (
      first_fits columns rows,
      full_any n columns (take k rows) (drop k rows) (λ values others is. first_full columns rows others values is),
      greedy_any columns (drop k rows) (cut_in n columns (drop k rows)) (greedy_in n columns (drop k rows) (rest_shorter columns rows n le)),
    )

pub all_greedy : (columns : List (List ℕ)) (rows : Rows) → AreGreedy columns (cut columns rows)
unfolding cut
all_greedy columns rows = greedy_in (length rows) columns rows (omega arith)
