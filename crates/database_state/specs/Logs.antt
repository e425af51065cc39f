-- The logs of a snapshot: one of all pages of an image, and one of pages that are pending.
use Rattle.std.specs.Prelude.{◌≤◌, ℕ, zero, suc, List, [], ◌∷◌, ◌++◌, length, map, Option, Some, None}
use Rattle.dq_base.specs.declared.images.Image.{Image}
use Rattle.dq_base.specs.declared.pages.NumberedPage.{NumberedPage}
use Rattle.dq_base.specs.Applying.{longest_file}
use Rattle.dq_base.specs.Images.{page_at, page_count}
use Rattle.dq_base.specs.Changes.{numbers_above_one, sizes_of}
use Rattle.wal_frames.specs.declared.frame.Frame.{Frame}
use Rattle.wal_frames.specs.Text.{wal}
use Rattle.wal_frames.specs.Writing.{Place, Wrote}

-- both files are at most as long as a sizes page may state
pub record IsShort (image : Image) : Type 0 where
  pub main : length image.main ≤ longest_file
  pub side : length image.side ≤ longest_file

-- what is listed of a number: its page, if there is one
abbrev pub listed : ℕ → Option (List ℕ) → List NumberedPage
listed number None = []
listed number (Some page) = record { number = number; page = page } ∷ []

-- the pages that an image has at this many numbers, from one on
unfoldable pub pages_from : ℕ → ℕ → Image → List NumberedPage
pages_from number zero image = []
pages_from number (suc count) image = listed number (page_at image number) ++ pages_from (suc number) count image

-- the pages of an image above 1, ascending
abbrev pub pages_above_one : Image → List NumberedPage
pages_above_one image = pages_from 2 (numbers_above_one image) image

-- all pages of an image: those above 1, ascending, and then the sizes page
abbrev pub all_pages : Image → List NumberedPage
all_pages image = pages_above_one image ++ sizes_of image ∷ []

-- a page as a frame
abbrev pub frame_of : ℕ → NumberedPage → Frame
frame_of commit p = record { number = p.number; commit = commit; page = p.page }

-- pages as frames without a commit size
abbrev pub plain_frames : List NumberedPage → List Frame
plain_frames pages = map (frame_of 0) pages

-- the frames of an image: all its pages, of which the last, the sizes page, alone has a commit size: the page count
abbrev pub image_frames : Image → List Frame
image_frames image = plain_frames (pages_above_one image) ++ frame_of (page_count image) (sizes_of image) ∷ []

-- the log of an image
unfoldable pub image_log : Image → List ℕ
image_log image = wal 0 (image_frames image)

-- the log of pages that are pending
unfoldable pub pending_log : List NumberedPage → List ℕ
pending_log pages = wal 0 (plain_frames pages)

-- These frames were written after the others, whatever was before.
abbrev pub Continues : List Frame → List ℕ → Place → List ℕ → Place → Type 0
Continues more out writer new_out new_writer = (start : List ℕ) (sequence : ℕ) (frames : List Frame) →
    Wrote start sequence frames out writer → Wrote start sequence (frames ++ more) new_out new_writer
