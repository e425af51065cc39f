-- An image told by the pages that were touched, and the change to it.
use Rattle.std.specs.Prelude.{ℕ, Bool, ◌&&◌, ◌==◌, if◌then◌else◌, List, [], ◌∷◌, ◌++◌, length, Some, None}
use Rattle.dq_base.specs.declared.images.Image.{Image}
use Rattle.dq_base.specs.declared.pages.NumberedPage.{NumberedPage}
use Rattle.dq_base.specs.declared.sizes.Lengths.{Lengths}
use Rattle.dq_base.specs.Images.{page_at, lengths_of}
use Rattle.dq_base.specs.Changes.{changed_page, sizes_of}
use Rattle.image_diff.specs.Touched.{no_pages}
use Rattle.image_diff.specs.declared.touched_image.TouchedImage.{TouchedImage}

-- the pages that an image has at these numbers, in their order
unfoldable pub pages_at : List ℕ → Image → List NumberedPage
pages_at [] image = []
pages_at (n ∷ ns) image = changed_page n None (page_at image n) ++ pages_at ns image

-- what is reported of an image by the pages at these numbers
abbrev pub reached_at : List ℕ → Image → TouchedImage
reached_at numbers image = record { pages = pages_at numbers image; sizes = sizes_of image; lengths = lengths_of image }

-- those of these pages that an earlier image has not, or has otherwise, in their order
unfoldable pub newer : Image → List NumberedPage → List NumberedPage
newer before [] = []
newer before (p ∷ ps) = changed_page p.number (page_at before p.number) (Some p.page) ++ newer before ps

-- the files of an image have these lengths
abbrev pub has_lengths : Image → Lengths → Bool
has_lengths image lengths = (length image.main == lengths.main) && (length image.side == lengths.side)

-- the change from an earlier image to what was reached
abbrev pub change_to : Image → TouchedImage → List NumberedPage
change_to before reached = if no_pages (newer before reached.pages) && has_lengths before reached.lengths then [] else newer before reached.pages ++ reached.sizes ∷ []
