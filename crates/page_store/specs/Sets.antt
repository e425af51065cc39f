-- Page sets that stand one after the other in one list of pages: each ends with a sizes page, the one with number 1.
use Rattle.std.specs.Prelude.{ℕ, ◌-◌, ◌==◌, if◌then◌else◌, List, [], ◌∷◌, ◌++◌, length, map, take, Option, Some, None}
use Rattle.dq_base.specs.declared.images.Image.{Image}
use Rattle.dq_base.specs.declared.pages.NumberedPage.{NumberedPage}
use Rattle.dq_base.specs.declared.sizes.Lengths.{Lengths}
use Rattle.dq_base.specs.Applying.{lengths_in}
use Rattle.page_store.specs.Store.{Store}

-- the sets in a list of pages, if some pages of the first set came before
abbrev pub sets_from : List NumberedPage → List NumberedPage → List (List NumberedPage)
sets_from begun [] = []
sets_from begun (p ∷ ps) = if p.number == 1 then (begun ++ p ∷ []) ∷ sets_from [] ps else sets_from (begun ++ p ∷ []) ps

-- the sets in a list of pages
unfoldable pub sets_of : List NumberedPage → List (List NumberedPage)
sets_of pages = sets_from [] pages

-- the pages after the last whole set
abbrev pub open_after : List NumberedPage → List NumberedPage → List NumberedPage
open_after begun [] = begun
open_after begun (p ∷ ps) = if p.number == 1 then open_after [] ps else open_after (begun ++ p ∷ []) ps

-- each page of a set has the set's lengths
abbrev pub lengths_of_set : List NumberedPage → List Lengths
lengths_of_set set = map (λ p. lengths_in set) set

-- a mark that counts pages as one that counts sets
abbrev pub seen : List NumberedPage → Option ℕ → Option ℕ
seen pages None = None
seen pages (Some count) = Some (length (sets_of (take count pages)))

-- a store whose sets are in one list of pages, and whose marks count pages
abbrev pub store_of : Image → List NumberedPage → ℕ → List (Option ℕ) → Store
store_of base pages newest marks = record { base = base; sets = sets_of pages; in_base = newest - length (sets_of pages); marks = map (seen pages) marks }
