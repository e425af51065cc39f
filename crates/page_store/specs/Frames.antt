-- The frames of a list, each by the number of its page, counted from 1.
use Rattle.std.specs.Prelude.{◌≡◌, ◌≢◌, ℕ, ◌-◌, ◌<◌, ◌≤◌, List, Some, slice_get}

-- Of the first frames, as many as the mark says, this one is the last with the page number.
pub record IsLastAt (frames : List ℕ) (number mark frame : ℕ) : Type 0 where
  pub from_one : 1 ≤ frame
  pub within : frame ≤ mark
  pub has_number : slice_get frames (frame - 1) ≡ Some number
  pub none_after : (i : ℕ) → frame ≤ i → i < mark → slice_get frames i ≢ Some number

-- none of the first frames, as many as the mark says, has the page number
abbrev pub NoneAt : List ℕ → ℕ → ℕ → Type 0
NoneAt frames number mark = (i : ℕ) → i < mark → slice_get frames i ≢ Some number
