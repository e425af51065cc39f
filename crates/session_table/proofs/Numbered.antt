-- Statements by their numbers.
use Rattle.std.proofs.Common.{◌≡◌, ℕ, zero, suc, ◌+◌, ◌<◌, ◌≤◌, true, false, not, List, [], ◌∷◌, ◌++◌, length, drop, set, get_or, cond, is_none, Option, Some, None, true≢false, refl, sym, ap, ◌∙◌, arith}
use Rattle.std.specs.Prelude.{is_some, IsSome}
use Rattle.std.proofs.lemmas.List.Sums.{sum_by-cons}
use Rattle.std.proofs.lemmas.List.{at_drop_more, at_drop_all}
use Rattle.session_spec.specs.Sessions.{Prepared}
use Rattle.session_spec.specs.Statements.{free_id, with_prepared, prepared_at, prepared_count}

-- the least free number is found by looking at one after the other
pub free_here : (xs : List (Option Prepared)) (i : ℕ) (d : Option Prepared) → i < length xs → get_or xs i d ≡ None → free_id (drop i xs) ≡ 0
free_here xs i d h none = at_drop_more free_id xs i d h ∙ ap (λ (o : Option Prepared). free_id (o ∷ drop (i + 1) xs)) none

next_free : (p : Option Prepared) (others : List (Option Prepared)) → is_none p ≡ false → free_id (p ∷ others) ≡ suc (free_id others)
next_free None others e = absurd (true≢false e)
next_free (Some p) others e = refl

pub free_later : (xs : List (Option Prepared)) (i : ℕ) (d : Option Prepared) → i < length xs → is_none (get_or xs i d) ≡ false → free_id (drop i xs) ≡ suc (free_id (drop (i + 1) xs))
free_later xs i d h some = at_drop_more free_id xs i d h ∙ next_free (get_or xs i d) (drop (i + 1) xs) some

-- a statement is under the least free number, after the others where none is free
pub put_inside : (p : Prepared) (xs : List (Option Prepared)) → free_id xs < length xs → with_prepared p xs ≡ set xs (free_id xs) (Some p)
put_inside p [] h = absurd (omega arith)
put_inside p (None ∷ xs) h = refl
put_inside p (Some q ∷ xs) h = ap (λ (ys : List (Option Prepared)). Some q ∷ ys) (put_inside p xs (omega arith))

pub put_behind : (p : Prepared) (xs : List (Option Prepared)) → length xs ≤ free_id xs → with_prepared p xs ≡ xs ++ Some p ∷ []
put_behind p [] h = refl
put_behind p (None ∷ xs) h = absurd (omega arith)
put_behind p (Some q ∷ xs) h = ap (λ (ys : List (Option Prepared)). Some q ∷ ys) (put_behind p xs (omega arith))

-- the number of a statement that is there is a place in the list
pub is_place : (xs : List (Option Prepared)) (id : ℕ) → IsSome (prepared_at xs id) → id < length xs
is_place [] id some = absurd (true≢false (sym some))
is_place (x ∷ xs) zero some = omega arith
is_place (x ∷ xs) (suc id) some = let h : id < length xs = is_place xs id some in omega arith

abbrev weight : Option Prepared → ℕ
weight o = cond (not (is_none o)) 1 0

counted_here : (o : Option Prepared) (others : List (Option Prepared)) → prepared_count (o ∷ others) ≡ weight o + prepared_count others
counted_here o others = sum_by-cons weight o others

weighs_one : (o : Option Prepared) → is_some o ≡ true → weight o ≡ 1
weighs_one None e = absurd (true≢false (sym e))
weighs_one (Some p) e = refl

weighs_nothing : (o : Option Prepared) → is_some o ≡ false → weight o ≡ 0
weighs_nothing None e = refl
weighs_nothing (Some p) e = absurd (true≢false e)

pub count_some : (xs : List (Option Prepared)) (i count whole : ℕ) (d : Option Prepared) → i < length xs → is_some (get_or xs i d) ≡ true → count + prepared_count (drop i xs) ≡ whole → (count + 1) + prepared_count (drop (i + 1) xs) ≡ whole
count_some xs i count whole d h some so_far =
    let e : prepared_count (drop i xs) ≡ weight (get_or xs i d) + prepared_count (drop (i + 1) xs) = at_drop_more prepared_count xs i d h ∙ counted_here (get_or xs i d) (drop (i + 1) xs) in
    let one : weight (get_or xs i d) ≡ 1 = weighs_one (get_or xs i d) some in
    omega arith

pub count_none : (xs : List (Option Prepared)) (i count whole : ℕ) (d : Option Prepared) → i < length xs → is_some (get_or xs i d) ≡ false → count + prepared_count (drop i xs) ≡ whole → count + prepared_count (drop (i + 1) xs) ≡ whole
count_none xs i count whole d h none so_far =
    let e : prepared_count (drop i xs) ≡ weight (get_or xs i d) + prepared_count (drop (i + 1) xs) = at_drop_more prepared_count xs i d h ∙ counted_here (get_or xs i d) (drop (i + 1) xs) in
    let nothing : weight (get_or xs i d) ≡ 0 = weighs_nothing (get_or xs i d) none in
    omega arith

pub count_end : (xs : List (Option Prepared)) (i count whole : ℕ) → length xs ≤ i → count + prepared_count (drop i xs) ≡ whole → count ≡ whole
count_end xs i count whole past so_far =
    let e : prepared_count (drop i xs) ≡ 0 = at_drop_all prepared_count xs i past in
    omega arith
