-- Reading the body of a part from left to right, with the first fault that is met: the number of columns, their names, rows
-- up to an end word, and the end of the body.
use Rattle.std.specs.Prelude.{◌≡◌, ◌<◌, ◌^◌, ◌==◌, ◌+◌, ◌/◌, ◌||◌, ℕ, zero, suc, List, [], ◌∷◌, length, Option, Some, None, Result, Ok, Err, MatchResult, IsUtf8, if◌then◌else◌}
use Rattle.std.specs.List.{AllByRecursion}
use Rattle.wire_words.specs.declared.fault.WordFault.{WordFault}
use Rattle.wire_words.specs.declared.fault.WordFault.TheVariants as word_faults
use Rattle.wire_words.specs.declared.value.Value.{Value}
use Rattle.wire_words.specs.Items.{HasNoNul}
use Rattle.wire_words.specs.Values.{IsInRange}
use Rattle.wire_words.specs.Reading.{◌>>=◌, Unread, unread, word_at, text_at}
use Rattle.wire_words.specs.ReadingValues.{row_at}
use Rattle.wire_rows.specs.declared.fault.RowReadFault.{RowReadFault}
use Rattle.wire_rows.specs.declared.fault.RowReadFault.TheVariants.{Word, NoEnd, Tail, NoMemory}
use Rattle.wire_rows.specs.declared.part.More.{More}
use Rattle.wire_rows.specs.declared.part.More.TheVariants.{Last, Follows}
use Rattle.wire_rows.specs.declared.part.Part.{Part}
use Rattle.wire_rows.specs.declared.reading.Next.{Next}
use Rattle.wire_rows.specs.declared.reading.Next.TheVariants.{Row, End}
use Rattle.wire_rows.specs.Spelling.{HaveWidth}
use Rattle.wire_rows.specs.Cut.{Rows, more_after}

-- the fault of a part, if an item has this one
abbrev pub of_word : WordFault → RowReadFault
of_word word_faults.NoMemory = NoMemory
of_word fault = Word fault

abbrev pub in_part : {X : Type 0} → Result X WordFault → Result X RowReadFault
in_part (Ok x) = Ok x
in_part (Err fault) = Err (of_word fault)

-- the names of this many columns
unfoldable pub names_at : ℕ → Unread → Result (List (List ℕ) × Unread) WordFault
names_at zero left = Ok ([], left)
names_at (suc count) left = do
  first ← text_at left
  others ← names_at count first.1
  Ok (first.0 ∷ others.0, others.1)

-- what a word says as an end word: the last part where its bytes are FF, and that others follow where they are EE
abbrev pub end_of : ℕ → Option More
end_of n = if n == 18446744073709551615 then Some Last else if n == 17216961135462248174 then Some Follows else None

abbrev pub end_with : Result (ℕ × Unread) WordFault → Option More
end_with (Ok n) = end_of n.0
end_with (Err fault) = None

-- what the next word says as an end word
unfoldable pub end_at : Unread → Option More
end_at left = end_with (word_at left)

-- the row of this many values that is here; if there are no columns, or nothing is left, no row can
abbrev pub row_here : ℕ → Unread → Result (Next × Unread) RowReadFault
row_here count left =
    if (count == 0) || (length left.bytes == 0) then Err NoEnd
    else in_part (row_at count left) >>= λ row. Ok (Row row.0, row.1)

-- the end word with this meaning, which is here
abbrev pub end_here : More → Unread → Result (Next × Unread) RowReadFault
end_here more left = in_part (word_at left) >>= λ word. Ok (End more, word.1)

abbrev pub next_with : Option More → ℕ → Unread → Result (Next × Unread) RowReadFault
next_with (Some more) count left = end_here more left
next_with None count left = row_here count left

-- what is here: the end word, or else a row
unfoldable pub next_at : ℕ → Unread → Result (Next × Unread) RowReadFault
next_at count left = next_with (end_at left) count left

-- one row before others
abbrev pub one_before : List Value → Result ((List (List Value) × More) × Unread) RowReadFault → Result ((List (List Value) × More) × Unread) RowReadFault
one_before values behind = behind >>= λ rest. Ok ((values ∷ rest.0.0, rest.0.1), rest.1)

-- what is here, and if it is a row what follows it
abbrev pub going_on : Next × Unread → (Unread → Result ((List (List Value) × More) × Unread) RowReadFault) → Result ((List (List Value) × More) × Unread) RowReadFault
going_on (End more, left) behind = Ok (([], more), left)
going_on (Row values, left) behind = one_before values (behind left)

-- the rows up to the end word, where at most this many bytes are left
unfoldable pub rows_at : ℕ → ℕ → Unread → Result ((List (List Value) × More) × Unread) RowReadFault
rows_at zero count left = Err NoEnd
rows_at (suc n) count left = next_at count left >>= λ next. going_on next (rows_at n count)

-- how many words n bytes are, if a part of a word counts as one
abbrev pub words_in : ℕ → ℕ
words_in n = (n + 7) / 8

-- a part of these columns, after whose end word nothing is left
abbrev pub ended : List (List ℕ) → (List (List Value) × More) × Unread → Result (Part × More) RowReadFault
ended columns rows =
    if length rows.1.bytes == 0 then Ok (record { columns = columns; rows = rows.0.0 }, rows.0.1)
    else Err (Tail (words_in (length rows.1.bytes)))

-- the part whose body this is, and whether others follow, or the first fault
unfoldable pub part_of : List ℕ → Result (Part × More) RowReadFault
part_of bytes = do
  count ← in_part (word_at (unread bytes))
  columns ← in_part (names_at count.0 count.1)
  rows ← rows_at (length columns.1.bytes) count.0 columns.1
  ended columns.0 rows

-- A fault is this one, unless memory ran out.
abbrev pub FailsReading : {X : Type 0} → RowReadFault → Result X RowReadFault → Type 0
FailsReading NoMemory reading = Unit {0}
FailsReading fault reading = reading ≡ Err fault

-- A call gave what reading gives, seen by view, and left the reader there; if it failed, the fault is that of reading.
abbrev pub Finds : {X Y : Type 0} → (X → Y) → (Unread → Result (Y × Unread) RowReadFault) → Unread → Unread → Result X RowReadFault → Type 0
Finds view read old new result = MatchResult result (λ x. read old ≡ Ok (view x, new)) (λ fault. FailsReading fault (read old))

-- A call gave what reading gives, unless memory ran out.
abbrev pub Gives : {X : Type 0} → Result X RowReadFault → Result X RowReadFault → Type 0
Gives reading result = MatchResult result (λ x. reading ≡ Ok x) (λ fault. FailsReading fault reading)

-- ---- what is read back

-- these parts, each with whether another follows
abbrev pub read_as : List (List ℕ) → List Rows → List (Result (Part × More) RowReadFault)
read_as columns [] = []
read_as columns (part ∷ parts) = Ok (record { columns = columns; rows = part }, more_after parts) ∷ read_as columns parts

-- the name of a column: UTF-8 without a NUL
abbrev pub IsName : List ℕ → Type 0
IsName name = IsUtf8 name × HasNoNul name

-- An answer that the wire can carry: 64 bits hold the number of columns, each row has as many values, which have
-- encodings, and if there are no columns there are no rows.
pub record IsSendable (columns : List (List ℕ)) (rows : Rows) : Type 0 where
  pub count_fits : length columns < 2 ^ 64
  pub names : AllByRecursion IsName columns
  pub widths : HaveWidth (length columns) rows
  pub values : AllByRecursion (AllByRecursion IsInRange) rows
  pub no_columns : length columns ≡ 0 → rows ≡ []
