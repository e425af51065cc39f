-- A table of read marks: at each of its places a live mark, or none. A mark's id is its place.
use Rattle.std.specs.Prelude.{◌≡◌, ℕ, ◌-◌, ◌≤◌, min, List, [], ◌∷◌, map, replicate, count_by, Option, Some, None, IsSome, is_some, slice_set, slice_index_or}

-- a table of 64 places without a mark
unfoldable pub no_marks : List (Option ℕ)
no_marks = replicate 64 None

-- the mark at a place; none past the table's end
abbrev pub mark_at : List (Option ℕ) → ℕ → Option ℕ
mark_at table id = slice_index_or table id None

-- a mark is at this place
abbrev pub IsLive : List (Option ℕ) → ℕ → Type 0
IsLive table id = IsSome (mark_at table id)

-- the table with this mark at a place
abbrev pub with_mark : List (Option ℕ) → ℕ → ℕ → List (Option ℕ)
with_mark table id mark = slice_set table id (Some mark)

-- the table without a mark at a place
abbrev pub without_mark : List (Option ℕ) → ℕ → List (Option ℕ)
without_mark table id = slice_set table id None

-- A mark was pinned at a place that was free: it is live there, and the rest of the table stays.
pub record Pinned (old new : List (Option ℕ)) (id mark : ℕ) : Type 0 where
  pub was_free : mark_at old id ≡ None
  pub is_live : mark_at new id ≡ Some mark
  pub table : new ≡ with_mark old id mark

-- how many marks are live
abbrev pub live_count : List (Option ℕ) → ℕ
live_count table = count_by is_some table

-- the lesser of two marks, of which either may be missing
abbrev pub lesser : Option ℕ → Option ℕ → Option ℕ
lesser None other = other
lesser (Some mark) None = Some mark
lesser (Some mark) (Some other) = Some (min mark other)

-- the least of a mark and those of a table
abbrev pub least_from : Option ℕ → List (Option ℕ) → Option ℕ
least_from least [] = least
least_from least (mark ∷ table) = least_from (lesser least mark) table

-- the least live mark, if one is live
abbrev pub least_mark : List (Option ℕ) → Option ℕ
least_mark table = least_from None table

-- no mark is live
abbrev pub NoneLive : List (Option ℕ) → Type 0
NoneLive table = (id : ℕ) → mark_at table id ≡ None

-- A live mark that no live mark is below.
pub record IsLeastMark (table : List (Option ℕ)) (least : ℕ) : Type 0 where
  pub is_live : (id : ℕ) × (mark_at table id ≡ Some least)
  pub none_below : (id mark : ℕ) → mark_at table id ≡ Some mark → least ≤ mark

-- a mark that is lowered by so much, or none
abbrev pub lowered_mark : ℕ → Option ℕ → Option ℕ
lowered_mark by None = None
lowered_mark by (Some mark) = Some (mark - by)

-- the table with each live mark lowered by so much
unfoldable pub lowered : ℕ → List (Option ℕ) → List (Option ℕ)
lowered by table = map (lowered_mark by) table
