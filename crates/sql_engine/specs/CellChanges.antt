-- The pages that setting a cell lists.
use Rattle.std.specs.Prelude.{ℕ, zero, suc, ◌+◌, ◌*◌, ◌%◌, ◌^◌, ◌==◌, if◌then◌else◌, List, [], ◌++◌, length, Some}
use Rattle.dq_base.specs.declared.images.Image.{Image}
use Rattle.dq_base.specs.declared.pages.NumberedPage.{NumberedPage}
use Rattle.dq_base.specs.declared.sizes.Lengths.{Lengths}
use Rattle.dq_base.specs.Images.{zeros, page_at}
use Rattle.dq_base.specs.Changes.{changed_page}
use Rattle.sql_engine.specs.Cells.{cell_page, changes_in}

-- a page of the main file, from the first that is not as before to the page of the cell: the cell, and zeros before it
abbrev pub new_page : ℕ → ℕ → ℕ → List ℕ
new_page page value index = if index == page then cell_page value else zeros 4096

-- this many pages of the main file from one on, as they are listed where the cell of a page is set to a value
unfoldable pub cells_from : Image → ℕ → ℕ → ℕ → ℕ → List NumberedPage
cells_from image page value index zero = []
cells_from image page value index (suc count) = changed_page (2 * index) (page_at image (2 * index)) (Some (new_page page value index)) ++ cells_from image page value (index + 1) count

-- page 1 of the side file, with one change more
abbrev pub count_page : Image → NumberedPage
count_page image = record { number = 3; page = cell_page ((changes_in image + 1) % 2 ^ 64) }

-- the lengths of an image's files
abbrev pub lengths_of : Image → Lengths
lengths_of image = record { main = length image.main; side = length image.side }
