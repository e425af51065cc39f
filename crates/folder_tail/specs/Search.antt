-- A whole batch after the place at which none reads.
use Rattle.std.specs.Prelude.{◌≡◌, ℕ, ◌+◌, ◌-◌, ◌*◌, ◌/◌, Bool, true, false, ◌&&◌, ◌||◌, ◌==◌, cond, nat_lt, nat_le, List, drop, Option, Some, None}
use Rattle.store_format.specs.Batches.{batch_in, sums_size}
use Rattle.folder_tail.specs.declared.heads.BatchHead.{BatchHead}
use Rattle.folder_tail.specs.Heads.{head_in}

-- bytes begin with a whole batch, whose first index is at most this far past the next one
unfoldable pub continues : ℕ → ℕ → ℕ → List ℕ → Bool
continues format next lost bytes = nat_lt 0 (batch_in format bytes).size && nat_le ((batch_in format bytes).batch.first - next) lost

-- bytes begin with a whole batch of some format, whose first index isn't past the next one
abbrev pub reads_in_any : ℕ → List ℕ → Bool
reads_in_any next bytes = continues 1 next 0 bytes || (continues 2 next 0 bytes || continues 3 next 0 bytes)

-- nothing reads after the first word of a segment, though a batch of some format is there
abbrev pub is_misread : ℕ → ℕ → List ℕ → Bool
is_misread next at bytes = cond (at == 8) (reads_in_any next (drop at bytes)) false

-- a batch that continues the log is at a place after the one at which none reads: the bytes between could hold as many entries as they have heads' sizes
abbrev pub continues_at : ℕ → ℕ → ℕ → List ℕ → ℕ → Bool
continues_at format next at bytes place = continues format next ((place - at) / 16) (drop place bytes)

-- one is at this place, a whole number of words after the first one; or no word from the first place on has one
abbrev pub LaterFrom : ℕ → ℕ → ℕ → ℕ → List ℕ → Option ℕ → Type 0
LaterFrom format next at from bytes None = (k : ℕ) → continues_at format next at bytes (from + 8 * k) ≡ false
LaterFrom format next at from bytes (Some place) = (k : ℕ) × ((place ≡ from + 8 * k) × (continues_at format next at bytes place ≡ true))

-- how many bytes the batch has whose head is whole, and those of one word if it isn't
abbrev pub passed_over : ℕ → Option BatchHead → ℕ
passed_over format None = 8
passed_over format (Some head) = sums_size format + head.end

-- the place from which on a batch may be
abbrev pub search_from : ℕ → ℕ → List ℕ → ℕ
search_from format at bytes = at + passed_over format (head_in format (drop at bytes))

abbrev pub Later : ℕ → ℕ → ℕ → List ℕ → Option ℕ → Type 0
Later format next at bytes found = LaterFrom format next at (search_from format at bytes) bytes found
