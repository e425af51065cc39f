-- Putting an image back to where it was before pages were applied to it.
use Rattle.std.specs.Prelude.{◌≡◌, ℕ, Bool, ◌&&◌, ◌<◌, ◌^◌, nat_le, nat_lt, if◌then◌else◌, List, [], ◌∷◌, ◌++◌, length, take, None}
use Rattle.dq_base.specs.declared.images.Image.{Image}
use Rattle.dq_base.specs.declared.pages.NumberedPage.{NumberedPage}
use Rattle.dq_base.specs.declared.sizes.Lengths.{Lengths}
use Rattle.dq_base.specs.Images.{is_main, is_side, page_at, lengths_of}
use Rattle.dq_base.specs.Applying.{put_pages}
use Rattle.dq_base.specs.Changes.{changed, changed_page}
use Rattle.image_diff.specs.declared.undoing.Undo.{Undo}
use Rattle.image_diff.specs.declared.undoing.Undo.TheVariants as undoes

-- the pages are the whole change from an image to one whose files are shorter than 2 ^ 64 bytes
pub record IsChange (from : Image) (pages : List NumberedPage) : Type 0 where
  pub to : Image
  pub main_fits : length to.main < 2 ^ 64
  pub side_fits : length to.side < 2 ^ 64
  pub all : pages ≡ changed from to

-- the page that an image has at a number above 1
abbrev pub page_under : Image → ℕ → List NumberedPage
page_under image number = if nat_lt 1 number then changed_page number None (page_at image number) else []

-- the pages that an image has where these are, except for the sizes page
unfoldable pub pages_under : Image → List NumberedPage → List NumberedPage
pages_under image [] = []
pages_under image (p ∷ ps) = page_under image p.number ++ pages_under image ps

-- neither file of an image is longer than these lengths
abbrev pub is_within : Image → Lengths → Bool
is_within image lengths = nat_le (length image.main) lengths.main && nat_le (length image.side) lengths.side

-- what puts an image back over which pages are applied that state these lengths
abbrev pub undo_of : Image → List NumberedPage → Lengths → Undo
undo_of image pages lengths = if is_within image lengths then undoes.Pages (lengths_of image) (pages_under image pages) else undoes.Whole image

-- a file with pages of it put back, cut to its length before
abbrev pub cut_back : (ℕ → Bool) → List NumberedPage → ℕ → List ℕ → List ℕ
cut_back mine pages length file = take length (put_pages mine pages file)

-- an image that was put back
abbrev pub undone : Undo → Image → Image
undone (undoes.Pages lengths pages) image = record { main = cut_back is_main pages lengths.main image.main; side = cut_back is_side pages lengths.side image.side }
undone (undoes.Whole before) image = before

-- an image that was put back by each of these, the last one first
unfoldable pub all_undone : List Undo → Image → Image
all_undone [] image = image
all_undone (undo ∷ rest) image = undone undo (all_undone rest image)
