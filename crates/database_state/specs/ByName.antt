-- Items of a list that have a name, and the first item that passes a test.
use Rattle.std.specs.Prelude.{◌≡◌, ℕ, ◌<◌, Bool, List, [], ◌∷◌, find, length, set, get_or, Some, if◌then◌else◌}
use Rattle.std.specs.Ordering.{nat_cmp, match_ordering}
use Rattle.std.specs.Cmp.Lexicographic.{slice_cmp}
use Rattle.std.specs.List.Sorted.{IsStrictlySortedBy}

-- What is done to the item of a name; without one, it is done to a new one, which is put into its place by the
-- bytes of the names.
unfoldable pub at_name : {X : Type 0} → (X → List ℕ) → X → List ℕ → (X → X) → List X → List X
at_name name_of new name f [] = f new ∷ []
at_name name_of new name f (x ∷ xs) = match_ordering (slice_cmp nat_cmp name (name_of x)) (f new ∷ x ∷ xs) (f x ∷ xs) (x ∷ at_name name_of new name f xs)

-- what is done to the first item that passes a test; if none does, all stay
unfoldable pub change_first : {X : Type 0} → (X → Bool) → (X → X) → List X → List X
change_first test f [] = []
change_first test f (x ∷ xs) = if test x then f x ∷ xs else x ∷ change_first test f xs

-- the first item that passes a test is at this place
pub record FirstAt {X : Type 0} (test : X → Bool) (xs : List X) (place : ℕ) : Type 0 where
  pub within : place < length xs
  pub found : (x : X) → find test xs ≡ Some (get_or xs place x)
  pub changed : (f : X → X) (x : X) → change_first test f xs ≡ set xs place (f (get_or xs place x))

-- names ascend strictly by their bytes, so each is there once
abbrev pub Ascend : List (List ℕ) → Type 0
Ascend names = IsStrictlySortedBy (slice_cmp nat_cmp) names
