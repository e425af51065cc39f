-- One peer's row of a leader's progress.
use Rattle.std.specs.Prelude.{◌≡◌, ℕ, false, cond, ◌<◌, List, length, take, slice_index_or}
use Rattle.raft_spec.specs.Node.{among}
use Rattle.raft_spec.specs.Progress.{PeerProgress, next_in, match_in, ids_in}

-- the first row of an id is at the place
pub record IsFirstRow (rows : List PeerProgress) (i : ℕ) (id : ℕ) : Type 0 where
  pub within : i < length rows
  pub is : (d : PeerProgress) → (slice_index_or rows i d).id ≡ id
  pub first : among (ids_in (take i rows)) id ≡ false

-- the row of a node that has one, or a new row with the given next and match 0
abbrev pub row_for : List PeerProgress → ℕ → ℕ → PeerProgress
row_for rows next id = record { id = id; next = cond (among (ids_in rows) id) (next_in rows id) next; matched = match_in rows id }
