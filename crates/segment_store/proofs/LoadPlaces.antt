-- The place of a number among ascending ones.
use Rattle.std.proofs.Common.{◌≡◌, ℕ, suc, ◌+◌, ◌<◌, ◌≤◌, List, length, drop, get_or, ap, ◌∙◌}
use Rattle.std.proofs.Math.ListN.{drop_of_length-le}
use Rattle.std.proofs.lemmas.Bool.{cond-true, cond-false, lt-ltb, le-ltb}
use Rattle.segment_store.specs.Listed.{place_for}
use Rattle.segment_store.proofs.LoadNames.{drop_head}

pub place_more : (n : ℕ) (xs : List ℕ) (place d : ℕ) → place < length xs → get_or xs place d < n → place_for n (drop place xs) ≡ suc (place_for n (drop (place + 1) xs))
unfolding place_for
place_more n xs place d h less = ap (place_for n) (drop_head xs place d h) ∙ cond-true _ _ _ (lt-ltb (get_or xs place d) n less)

pub place_stop : (n : ℕ) (xs : List ℕ) (place d : ℕ) → place < length xs → n ≤ get_or xs place d → place_for n (drop place xs) ≡ 0
unfolding place_for
place_stop n xs place d h more = ap (place_for n) (drop_head xs place d h) ∙ cond-false _ _ _ (le-ltb (get_or xs place d) n more)

pub place_none : (n : ℕ) (xs : List ℕ) (place : ℕ) → length xs ≤ place → place_for n (drop place xs) ≡ 0
unfolding place_for
place_none n xs place h = ap (place_for n) (drop_of_length-le xs h)
