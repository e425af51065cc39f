-- An ordered set of pairs of a page number and a place, which has the frames of a list.
use Rattle.std.specs.Prelude.{◌≡◌, ℕ, ◌+◌, ◌-◌, ◌^◌, ◌<◌, ◌≤◌, true, false, List, length, slice_index}
use Rattle.std.specs.declared.cmp.Ordering.{Ordering}
use Rattle.std.specs.Ordering.{nat_cmp, ordering_then}
use Rattle.std.specs.BTreeSet.{BTreeSet, contains}

-- pairs in the order of their page numbers, and at one number of their places
abbrev pub pair_cmp : ℕ × ℕ → ℕ × ℕ → Ordering
pair_cmp a b = ordering_then (nat_cmp a.0 b.0) (nat_cmp a.1 b.1)

-- a pair is one of a list's frames, if the first of them has this place
pub record StandsIn (numbers : List ℕ) (first : ℕ) (pair : ℕ × ℕ) : Type 0 where
  pub from_first : first ≤ pair.1
  pub inside : pair.1 - first < length numbers
  pub number : slice_index numbers (pair.1 - first) ≡ pair.0

-- the set has each of a list's frames and nothing else, if the first of them has this place
pub record Placed (numbers : List ℕ) (first : ℕ) (places : BTreeSet (ℕ × ℕ)) : Type 0 where
  pub fits : first + length numbers < 2 ^ 64
  pub listed : (i : ℕ) → i < length numbers → contains pair_cmp places (slice_index numbers i, first + i) ≡ true
  pub stands : (pair : ℕ × ℕ) → contains pair_cmp places pair ≡ true → StandsIn numbers first pair

-- no place below an end is next to a number
abbrev pub NoPlace : BTreeSet (ℕ × ℕ) → ℕ → ℕ → Type 0
NoPlace places number end = (place : ℕ) → place < end → contains pair_cmp places (number, place) ≡ false

-- the greatest place below an end that is next to a number
pub record IsLastPlace (places : BTreeSet (ℕ × ℕ)) (number end place : ℕ) : Type 0 where
  pub below : place < end
  pub has : contains pair_cmp places (number, place) ≡ true
  pub none_after : (later : ℕ) → place < later → later < end → contains pair_cmp places (number, later) ≡ false
