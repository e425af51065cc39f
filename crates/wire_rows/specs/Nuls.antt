-- Texts with a NUL in an answer.
use Rattle.std.specs.Prelude.{◌≡◌, ◌+◌, ℕ, List, [], ◌∷◌, ◌++◌, length, Bool, true, false, Option, Some, None, position}
use Rattle.std.specs.List.{AllByRecursion}
use Rattle.dq_base.specs.Names.{has_nul}
use Rattle.wire_words.specs.declared.value.Value.{Value}
use Rattle.wire_words.specs.declared.value.Value.TheVariants.{Integer, Text, Blob, Null}
use Rattle.wire_words.specs.Values.{AreWritable}

-- the value is a text with a NUL
abbrev pub holds_nul : Value → Bool
holds_nul (Integer n) = false
holds_nul (Text t) = has_nul t
holds_nul (Blob b) = false
holds_nul Null = false

-- the place in this row, or else that in another
abbrev pub place_in : ℕ → Option ℕ → Option (ℕ × ℕ) → Option (ℕ × ℕ)
place_in row (Some column) other = Some (row, column)
place_in row None other = other

-- the row and the column of the first text with a NUL, by rows and then columns, if the rows are counted from here
abbrev pub nul_from : ℕ → List (List Value) → Option (ℕ × ℕ)
nul_from row [] = None
nul_from row (values ∷ rows) = place_in row (position holds_nul values) (nul_from (row + 1) rows)

-- the row and the column of the first text with a NUL
unfoldable pub first_nul : List (List Value) → Option (ℕ × ℕ)
first_nul rows = nul_from 0 rows

-- At this row and column stands a text with a NUL, and none is before it.
pub record IsFirstNul (rows : List (List Value)) (row column : ℕ) : Type 0 where
  pub rows_before : List (List Value)
  pub values_before : List Value
  pub nul_text : List ℕ
  pub values_after : List Value
  pub rows_after : List (List Value)
  pub stands : rows ≡ rows_before ++ (values_before ++ Text nul_text ∷ values_after) ∷ rows_after
  pub row_is : row ≡ length rows_before
  pub column_is : column ≡ length values_before
  pub nul : has_nul nul_text ≡ true
  pub none_before : AllByRecursion AreWritable rows_before
  pub none_beside : AreWritable values_before
