-- The lengths of two images, compared by pages of the one.
use Rattle.std.specs.Prelude.{ℕ, ◌+◌, ◌*◌, Bool, false, ◌&&◌, is_none, List, Option, Some, None}
use Rattle.std.specs.Str.{bytes_eq}
use Rattle.dq_base.specs.declared.images.Image.{Image}
use Rattle.dq_base.specs.Changes.{sizes_of}
use Rattle.dq_base.specs.Images.{page_at, pages_of}

-- whether there is a page, with these bytes
abbrev pub shows : Option (List ℕ) → List ℕ → Bool
shows None page = false
shows (Some own) page = bytes_eq own page

-- whether an image has the sizes page of a later one
abbrev pub has_sizes : Image → Image → Bool
has_sizes a b = shows (page_at a 1) (sizes_of b).page

-- the number of the page after the last one of a file with this many bytes, whose first page has this number
abbrev pub number_behind : ℕ → ℕ → ℕ
number_behind first bytes = first + 2 * pages_of bytes

-- whether an image has no page after a main file of this many bytes, and none after a side file of this many
abbrev pub ends_within : Image → ℕ → ℕ → Bool
ends_within image main side = is_none (page_at image (number_behind 2 main)) && is_none (page_at image (number_behind 3 side))
