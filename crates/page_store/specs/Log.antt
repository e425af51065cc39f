-- A log of frames: pages in order, each with the lengths of its set.
use Rattle.std.specs.Prelude.{◌≡◌, ℕ, ◌+◌, ◌-◌, ◌<◌, ◌≤◌, min, List, ◌++◌, length, map, take, drop, slice_index_or}
use Rattle.std.specs.List.{AllByRecursion}
use Rattle.dq_base.specs.declared.pages.NumberedPage.{NumberedPage}
use Rattle.dq_base.specs.declared.sizes.Lengths.{Lengths}
use Rattle.page_store.specs.declared.frame_log.Frame.{Frame}
use Rattle.dq_base.specs.declared.images.Image.{Image}
use Rattle.dq_base.specs.Images.{resized, page_from}
use Rattle.page_store.specs.Laying.{laid, IsLeast}

-- the pages of a log and, for each, the lengths of its set
pub record Log : Type 0 where
  pub pages : List NumberedPage
  pub lengths : List Lengths

-- a log with more pages after the others, all of one set
abbrev pub extended : Log → List NumberedPage → Lengths → Log
extended log pages lengths = record { pages = log.pages ++ pages; lengths = log.lengths ++ map (λ p. lengths) pages }

-- a log without its first frames
abbrev pub without_first : ℕ → Log → Log
without_first count log = record { pages = drop count log.pages; lengths = drop count log.lengths }

-- the first frames of a log
abbrev pub first_of : ℕ → Log → Log
first_of count log = record { pages = take count log.pages; lengths = take count log.lengths }

abbrev pub pages_of : List Frame → List NumberedPage
pages_of frames = map (λ f. f.page) frames

abbrev pub lengths_of : List Frame → List Lengths
lengths_of frames = map (λ f. f.lengths) frames

-- a page has 4,096 bytes
abbrev pub IsSized : NumberedPage → Type 0
IsSized p = length p.page ≡ 4096

-- A frame at a place looks back over a stretch that ends with it; if the stretch begins in the log, the frame has the
-- least lengths in it.
pub record LooksBack (lengths : List Lengths) (i : ℕ) (back : ℕ) (least : Lengths) : Type 0 where
  pub from_one : 1 ≤ back
  pub main : back ≤ i + 1 → IsLeast 0 lengths (i + 1 - back) i least.main
  pub side : back ≤ i + 1 → IsLeast 1 lengths (i + 1 - back) i least.side

-- each frame does
abbrev pub AllLookBack : List Frame → Type 0
AllLookBack frames = (i : ℕ) (f : Frame) → i < length frames → f ≡ slice_index_or frames i f → LooksBack (lengths_of frames) i f.back f.least

-- what is true of the frames of a log and its index
pub record LogHolds (frames : List Frame) (index : List ℕ) : Type 0 where
  pub indexed : index ≡ map (λ f. f.page.number) frames
  pub sized : AllByRecursion (λ f. IsSized f.page) frames
  pub look_back : AllLookBack frames

-- the image that the first frames of a log make of a base
abbrev pub laid_image : Log → ℕ → List ℕ → List ℕ → Image
laid_image log count main side = record {
  main = laid 0 (take count log.pages) (take count log.lengths) main;
  side = laid 1 (take count log.pages) (take count log.lengths) side;
}

-- A frame's page as far as the least length from it on reaches, and then zeros.
pub record PageOfFrame (log : Log) (frame count parity start : ℕ) (page : List ℕ) : Type 0 where
  pub least : ℕ
  pub is_least : IsLeast parity log.lengths frame (count - 1) least
  pub bytes : (d : NumberedPage) → page ≡ resized 4096 (take (least - start) (slice_index_or log.pages frame d).page)

-- A page of a base file as far as the file and the least length reach, and then zeros.
pub record PageOfBase (log : Log) (file : List ℕ) (count parity start : ℕ) (page : List ℕ) : Type 0 where
  pub end : ℕ
  pub within : end ≤ length file
  pub none : count ≡ 0 → end ≡ length file
  pub least : 0 < count → (least : ℕ) × IsLeast parity log.lengths 0 (count - 1) least × (end ≡ min (length file) least)
  pub bytes : page ≡ page_from (take end file) start
