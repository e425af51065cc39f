-- A database under readers: a base image, the page sets committed over it, and live marks that each see some of them.
use Rattle.std.specs.Prelude.{◌≡◌, ℕ, ◌+◌, ◌≤◌, List, [], ◌∷◌, ◌++◌, length, take, drop, sum_by, Option, Some, unwrap_or, IsSome}
use Rattle.dq_base.specs.declared.images.Image.{Image}
use Rattle.dq_base.specs.declared.pages.NumberedPage.{NumberedPage}
use Rattle.dq_base.specs.Applying.{applied}
use Rattle.page_store.specs.Marks.{no_marks, mark_at, with_mark, without_mark, least_mark, lowered}

-- an image after page sets are applied to it in order
abbrev pub after_sets : Image → List (List NumberedPage) → Image
after_sets image [] = image
after_sets image (set ∷ sets) = after_sets (applied image set) sets

-- the base with the first m page sets applied in order
abbrev pub view : Image → List (List NumberedPage) → ℕ → Image
view base sets m = after_sets base (take m sets)

-- What a store is seen as: the base; the page sets over it; how many commits are in the base already; and the table of
-- live marks, each with the number of sets that it sees.
pub record Store : Type 0 where
  pub base : Image
  pub sets : List (List NumberedPage)
  pub in_base : ℕ
  pub marks : List (Option ℕ)

-- a store over an image, before any commit
abbrev pub fresh_store : Image → Store
fresh_store image = record { base = image; sets = []; in_base = 0; marks = no_marks }

-- how many commits there were
abbrev pub newest : Store → ℕ
newest store = store.in_base + length store.sets

-- the image with all sets
abbrev pub newest_image : Store → Image
newest_image store = after_sets store.base store.sets

-- a mark is live in a store
abbrev pub IsLive : Store → ℕ → Type 0
IsLive store id = IsSome (mark_at store.marks id)

-- the image that a live mark shows
abbrev pub image_under : Store → ℕ → Image
image_under store id = view store.base store.sets (unwrap_or (mark_at store.marks id) 0)

-- after a commit: one set more
abbrev pub committed : Store → List NumberedPage → Store
committed store pages = record store { sets = store.sets ++ pages ∷ [] }

-- after a pin: the mark sees all sets
abbrev pub pinned : Store → ℕ → Store
pinned store id = record store { marks = with_mark store.marks id (length store.sets) }

-- after a release
abbrev pub released : Store → ℕ → Store
released store id = record store { marks = without_mark store.marks id }

-- how many sets a checkpoint moves: those up to the least live mark, or all if no mark is live
abbrev pub sets_to_move : Store → ℕ
sets_to_move store = unwrap_or (least_mark store.marks) (length store.sets)

-- after this many sets moved into the base: every live mark is lowered by their number
abbrev pub moved : ℕ → Store → Store
moved count store = record {
  base = view store.base store.sets count;
  sets = drop count store.sets;
  in_base = store.in_base + count;
  marks = lowered count store.marks;
}

-- after a checkpoint
abbrev pub checkpointed : Store → Store
checkpointed store = moved (sets_to_move store) store

-- how many pages a checkpoint moves
abbrev pub pages_to_move : Store → ℕ
pages_to_move store = sum_by length (take (sets_to_move store) store.sets)

-- If the mark was live it still is, and it shows the image that it showed.
pub record StillShows (old new : Store) (id : ℕ) : Type 0 where
  pub live : IsLive old id → IsLive new id
  pub same_image : IsLive old id → image_under new id ≡ image_under old id

-- no mark sees more sets than there are
abbrev pub MarksWithin : Store → Type 0
MarksWithin store = (id mark : ℕ) → mark_at store.marks id ≡ Some mark → mark ≤ length store.sets
