-- Any list of calls of a store, and what a live mark shows after it.
use Rattle.std.specs.Prelude.{◌≡◌, ◌≢◌, ℕ, List, [], ◌∷◌, ◌++◌}
use Rattle.std.specs.List.{AllByRecursion}
use Rattle.dq_base.specs.declared.pages.NumberedPage.{NumberedPage}
use Rattle.page_store.specs.Store.{Store, newest_image, image_under, committed, pinned, released, checkpointed}

-- a call that was not refused: a commit of pages, a pin or a release of a mark, a checkpoint
pub data Call : Type 0 where
  Commit : List NumberedPage → Call
  Pin : ℕ → Call
  Release : ℕ → Call
  Checkpoint : Call

-- the store after one call
abbrev pub after_call : Store → Call → Store
after_call store (Commit pages) = committed store pages
after_call store (Pin id) = pinned store id
after_call store (Release id) = released store id
after_call store Checkpoint = checkpointed store

-- the store after calls in order
abbrev pub run : Store → List Call → Store
run store [] = store
run store (call ∷ calls) = run (after_call store call) calls

-- a call neither pins nor releases a mark
abbrev pub LeavesAlone : ℕ → Call → Type 0
LeavesAlone id (Commit pages) = Unit {0}
LeavesAlone id (Pin other) = other ≢ id
LeavesAlone id (Release other) = other ≢ id
LeavesAlone id Checkpoint = Unit {0}

-- Among the calls is the one that pinned the mark as it stands: none after it pinned or released that mark. After all of
-- them the mark shows the image that was newest when it was pinned.
pub record ShowsImagePinned (start : Store) (calls : List Call) (id : ℕ) : Type 0 where
  pub before : List Call
  pub later : List Call
  pub split : calls ≡ before ++ (Pin id ∷ later)
  pub stands : AllByRecursion (LeavesAlone id) later
  pub shows : image_under (run start calls) id ≡ newest_image (run start before)
