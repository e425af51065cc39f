-- Two files that record, as one.
use Rattle.std.specs.Prelude.{ℕ, ◌+◌, ◌*◌, List, [], ◌∷◌, take, drop, Option, Some, None}
use Rattle.dq_base.specs.Images.{resized}
use Rattle.dq_base.specs.declared.images.Image.{Image}
use Rattle.sqlite_files.specs.Recording.{Recorded, since, touched_count}

-- a pair of files that records: the images before and after, and how many pages of both were touched
pub record Pair : Type 0 where
  pub before : Image
  pub after : Image
  pub touched : ℕ

-- the main and the side file of a pair
abbrev pub pair_of : Recorded → Recorded → Pair
pair_of main side = record {
  before = record { main = main.before; side = side.before };
  after = record { main = main.after; side = side.after };
  touched = touched_count (since 0 main.stamps) + touched_count (since 0 side.stamps);
}

-- the image of two files
abbrev pub both : List ℕ → List ℕ → Image
both main side = record { main = main; side = side }

-- the bytes of a page that a file has, by the page's index from 0
abbrev pub piece_of : List ℕ → ℕ → List ℕ
piece_of file page = take 4096 (drop (page * 4096) file)

-- the page of which these are the first bytes, and zeros the others; none if there are no bytes
abbrev pub page_of : List ℕ → Option (List ℕ)
page_of [] = None
page_of (byte ∷ rest) = Some (resized 4096 (byte ∷ rest))
