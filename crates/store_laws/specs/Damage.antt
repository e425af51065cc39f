-- Where damage stands.
use Rattle.std.specs.Prelude.{◌≡◌, ℕ, zero, suc, ◌-◌, cond, true, not, List, [], ◌∷◌, ◌++◌, length, drop, Option, Some, None, is_some}
use Rattle.store_laws.specs.Names.{Segment, NodeFiles}
use Rattle.store_laws.specs.Store.{Format, reader, opens, torn, is_whole, kept, Damaged, segments, sound}

-- how far a segment reads: to the end of its whole batches, and not at all if its first word says no version
unfoldable pub good_end : Format → List ℕ → ℕ
good_end f bytes = cond (opens f bytes) (length bytes - length (torn (reader f bytes) (length bytes) (drop 8 bytes))) 0

-- a segment with its number
pub record Numbered : Type 0 where
  pub number : ℕ
  pub bytes : List ℕ

-- the segments below a number that are there, ascending
unfoldable pub numbered : ℕ → NodeFiles → List Numbered
numbered zero g = []
numbered (suc n) g = numbered n g ++ cond (g (Segment n)).there (record { number = n; bytes = (g (Segment n)).bytes } ∷ []) []

-- the first one but the last that isn't whole, and the place in it from which nothing reads
unfoldable pub first_damage : Format → List Numbered → Option (ℕ × ℕ)
first_damage f [] = None
first_damage f (x ∷ []) = None
first_damage f (x ∷ y ∷ rest) = cond (is_whole f x.bytes) (first_damage f (y ∷ rest)) (Some (x.number, good_end f x.bytes))

abbrev pub damage : Format → ℕ → NodeFiles → Option (ℕ × ℕ)
damage f top g = first_damage f (numbered top g)

-- damage has a place exactly if a segment but the last isn't whole, and so wherever files are damaged
pub record HasPlace (f : Format) (top : ℕ) (g : NodeFiles) : Type 0 where
  pub sound : sound f (segments top g) ≡ not (is_some (damage f top g))
  pub damaged : kept f top g ≡ Damaged → is_some (damage f top g) ≡ true

abbrev pub DamagePlaces : Type 0
DamagePlaces = (f : Format) (top : ℕ) (g : NodeFiles) → HasPlace f top g
