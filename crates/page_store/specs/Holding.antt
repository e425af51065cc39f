-- What is true of the fields of a store.
use Rattle.std.specs.Prelude.{◌≡◌, ℕ, ◌≤◌, List, [], length, take, Option, Some, None}
use Rattle.std.specs.List.{AllByRecursion, flat_map}
use Rattle.dq_base.specs.declared.pages.NumberedPage.{NumberedPage}
use Rattle.dq_base.specs.declared.sizes.Lengths.{Lengths}
use Rattle.dq_base.specs.Applying.{page_fault}
use Rattle.page_store.specs.Marks.{mark_at}
use Rattle.page_store.specs.Sets.{sets_of, open_after, lengths_of_set}
use Rattle.page_store.specs.Laying.{Room}
use Rattle.page_store.specs.Log.{IsSized}

-- a set that can be applied
abbrev pub IsSoundSet : List NumberedPage → Type 0
IsSoundSet set = page_fault set ≡ None

-- a place where a set ends, or the beginning
pub record IsEnd (pages : List NumberedPage) (count : ℕ) : Type 0 where
  pub within : count ≤ length pages
  pub closed : open_after [] (take count pages) ≡ []

-- The pages are whole sets that can be applied, each page with its set's lengths; there is room for each length; a mark
-- is where a set ends.
pub record Holds (main side : ℕ) (pages : List NumberedPage) (lengths : List Lengths) (newest : ℕ) (marks : List (Option ℕ)) : Type 0 where
  pub sound : AllByRecursion IsSoundSet (sets_of pages)
  pub sized : AllByRecursion IsSized pages
  pub closed : open_after [] pages ≡ []
  pub set_lengths : lengths ≡ flat_map lengths_of_set (sets_of pages)
  pub counted : length (sets_of pages) ≤ newest
  pub ends : (id count : ℕ) → mark_at marks id ≡ Some count → IsEnd pages count
  pub main_room : Room 0 lengths main
  pub side_room : Room 1 lengths side
