-- The body of a part of an answer: the number of columns in a word, their names, rows, and an end word.
use Rattle.std.specs.Prelude.{◌≡◌, ℕ, List, [], ◌∷◌, ◌++◌, length, replicate}
use Rattle.std.specs.List.{AllByRecursion}
use Rattle.wire_words.specs.declared.value.Value.{Value}
use Rattle.wire_words.specs.Items.{word, text, HasNoNul}
use Rattle.wire_words.specs.Values.{row}
use Rattle.wire_rows.specs.declared.part.More.{More}
use Rattle.wire_rows.specs.declared.part.More.TheVariants.{Last, Follows}

-- the names of columns, one text after the other
abbrev pub names_bytes : List (List ℕ) → List ℕ
names_bytes [] = []
names_bytes (name ∷ names) = text name ++ names_bytes names

-- what is before the rows
abbrev pub head_bytes : List (List ℕ) → List ℕ
head_bytes columns = word (length columns) ++ names_bytes columns

-- rows, one after the other
abbrev pub rows_bytes : List (List Value) → List ℕ
rows_bytes [] = []
rows_bytes (values ∷ rows) = row values ++ rows_bytes rows

-- the word at the end: eight bytes FF in the last part, eight bytes EE in the others
abbrev pub end_word : More → List ℕ
end_word Last = replicate 8 255
end_word Follows = replicate 8 238

-- the whole body
abbrev pub body_bytes : List (List ℕ) → List (List Value) → More → List ℕ
body_bytes columns rows more = head_bytes columns ++ (rows_bytes rows ++ end_word more)

-- no name holds a NUL
abbrev pub HaveNoNul : List (List ℕ) → Type 0
HaveNoNul names = AllByRecursion HasNoNul names

-- each row has this many values
abbrev pub HaveWidth : ℕ → List (List Value) → Type 0
HaveWidth width rows = AllByRecursion (λ values. length values ≡ width) rows
