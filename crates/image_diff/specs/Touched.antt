-- Two images of which all pages but those of some numbers are known to be alike, and the change from one to the other by these.
use Rattle.std.specs.Prelude.{◌≡◌, ◌≢◌, ℕ, ◌<◌, nat_lt, Bool, true, false, ◌&&◌, ◌==◌, if◌then◌else◌, List, [], ◌∷◌, ◌++◌, length}
use Rattle.std.specs.List.{AllByRecursion}
use Rattle.std.specs.Ordering.{nat_cmp}
use Rattle.std.specs.BTreeSet.{insert_key}
use Rattle.dq_base.specs.declared.images.Image.{Image}
use Rattle.dq_base.specs.declared.pages.NumberedPage.{NumberedPage}
use Rattle.dq_base.specs.Images.{page_at}
use Rattle.dq_base.specs.Changes.{changed_page, sizes_of}

-- there are no pages
abbrev pub no_pages : List NumberedPage → Bool
no_pages [] = true
no_pages (p ∷ ps) = false

-- the numbers of pages, except for that of a sizes page
abbrev pub numbers_of : List NumberedPage → List ℕ
numbers_of [] = []
numbers_of (p ∷ ps) = if nat_lt 1 p.number then p.number ∷ numbers_of ps else numbers_of ps

-- the number is not one of these
abbrev pub NoneIs : ℕ → List ℕ → Type 0
NoneIs n ns = AllByRecursion (λ (m : ℕ). m ≢ n) ns

-- at each other number above 1 a change from a to b lists nothing
abbrev pub DiffersOnlyAt : List ℕ → Image → Image → Type 0
DiffersOnlyAt ns a b = (n : ℕ) → 1 < n → NoneIs n ns → changed_page n (page_at a n) (page_at b n) ≡ []

-- all numbers above 1 at which a change from a to b lists a page are among these, which are above 1
pub record ListsAll (ns : List ℕ) (a b : Image) : Type 0 where
  pub above : AllByRecursion (λ (n : ℕ). 1 < n) ns
  pub only : DiffersOnlyAt ns a b

-- what a change from a to b lists at these numbers, in their order
abbrev pub changed_at : List ℕ → Image → Image → List NumberedPage
changed_at [] a b = []
changed_at (n ∷ ns) a b = changed_page n (page_at a n) (page_at b n) ++ changed_at ns a b

-- both files of two images have the same lengths
abbrev pub same_lengths : Image → Image → Bool
same_lengths a b = (length a.main == length b.main) && (length a.side == length b.side)

-- the change from a to b where its pages above 1 are at these numbers
abbrev pub change_at : List ℕ → Image → Image → List NumberedPage
change_at ns a b = if no_pages (changed_at ns a b) && same_lengths a b then [] else changed_at ns a b ++ sizes_of b ∷ []

-- ascending, from above a bound on
abbrev pub Ascends : ℕ → List ℕ → Type 0
Ascends low [] = Unit {0}
Ascends low (n ∷ ns) = (low < n) × Ascends n ns

-- more numbers at their places in an ascending list, each once
abbrev pub put_in_order : List ℕ → List ℕ → List ℕ
put_in_order keys [] = keys
put_in_order keys (n ∷ ns) = put_in_order (insert_key nat_cmp keys n) ns
