-- The pages that lead from one image to another.
use Rattle.std.specs.Prelude.{ℕ, zero, suc, ◌*◌, max, Bool, ◌&&◌, if◌then◌else◌, List, [], ◌∷◌, ◌++◌, length, Option, Some, None}
use Rattle.std.specs.Str.{bytes_eq}
use Rattle.dq_base.specs.declared.images.Image.{Image}
use Rattle.dq_base.specs.declared.pages.NumberedPage.{NumberedPage}
use Rattle.dq_base.specs.Images.{page_at, pages_in, sizes_page}

-- whether two images are the same
abbrev pub same_image : Image → Image → Bool
same_image a b = bytes_eq a.main b.main && bytes_eq a.side b.side

-- what a change lists at a number: the later page, if there was none before or another one
abbrev pub changed_page : ℕ → Option (List ℕ) → Option (List ℕ) → List NumberedPage
changed_page number before None = []
changed_page number None (Some page) = record { number = number; page = page } ∷ []
changed_page number (Some old) (Some page) = if bytes_eq old page then [] else record { number = number; page = page } ∷ []

-- what a change from a to b lists at this many numbers, from one on
unfoldable pub changed_from : ℕ → ℕ → Image → Image → List NumberedPage
changed_from number zero a b = []
changed_from number (suc count) a b = changed_page number (page_at a number) (page_at b number) ++ changed_from (suc number) count a b

-- how many numbers there are from 2 up to the highest that b has
abbrev pub numbers_above_one : Image → ℕ
numbers_above_one b = 2 * max (pages_in b.main) (pages_in b.side)

-- the sizes page, with its number
abbrev pub sizes_of : Image → NumberedPage
sizes_of image = record { number = 1; page = sizes_page (length image.main) (length image.side) }

-- The change from a to b: nothing if they are the same, else the pages above 1 that b has and a has not or has
-- otherwise, in ascending order, and then the sizes page of b.
unfoldable pub changed : Image → Image → List NumberedPage
changed a b = if same_image a b then [] else changed_from 2 (numbers_above_one b) a b ++ sizes_of b ∷ []
