-- The cut of an answer's rows into parts.
use Rattle.std.specs.Prelude.{◌≡◌, ◌≤◌, ◌⊎◌, ℕ, zero, suc, Bool, true, false, List, [], ◌∷◌, ◌++◌, length, take, drop, max, sum_by, nat_le, if◌then◌else◌}
use Rattle.wire_words.specs.declared.value.Value.{Value}
use Rattle.wire_rows.specs.declared.part.More.{More}
use Rattle.wire_rows.specs.declared.part.More.TheVariants.{Last, Follows}
use Rattle.wire_rows.specs.Spelling.{body_bytes}

-- the rows of a part
abbrev pub Rows : Type 0
Rows = List (List Value)

-- these rows have room in one body, its end word included
abbrev pub has_room : List (List ℕ) → Rows → Bool
has_room columns rows = nat_le (length (body_bytes columns rows Last)) 65536

-- the largest number from 1 to n that passes a test, or 0 where none does
abbrev pub largest : (ℕ → Bool) → ℕ → ℕ
largest passes zero = 0
largest passes (suc n) = if passes (suc n) then suc n else largest passes n

-- how many rows the first part takes: the longest prefix that has room, or one row where none has
unfoldable pub first_count : List (List ℕ) → Rows → ℕ
first_count columns rows = max 1 (largest (λ n. has_room columns (take n rows)) (length rows))

-- the second list, unless the first is empty
abbrev pub where_any : {A B : Type 0} → List A → List B → List B
where_any [] others = []
where_any (x ∷ xs) others = others

-- the first part, and then the parts of the rows after it, if there are any; at most this many parts after the first
abbrev pub cut_in : ℕ → List (List ℕ) → Rows → List Rows
cut_in zero columns rows = rows ∷ []
cut_in (suc n) columns rows =
    take (first_count columns rows) rows ∷ where_any (drop (first_count columns rows) rows) (cut_in n columns (drop (first_count columns rows) rows))

-- the parts: each takes a row at least, so there are no more of them than rows, but one if there are no rows
unfoldable pub cut : List (List ℕ) → Rows → List Rows
cut columns rows = cut_in (length rows) columns rows

-- whether another part follows
abbrev pub more_after : List Rows → More
more_after [] = Last
more_after (part ∷ parts) = Follows

-- the bodies of these parts
abbrev pub bodies : List (List ℕ) → List Rows → List (List ℕ)
bodies columns [] = []
bodies columns (part ∷ parts) = body_bytes columns part (more_after parts) ∷ bodies columns parts

-- how many bytes they have together
abbrev pub total_size : List (List ℕ) → ℕ
total_size parts = sum_by length parts

-- ---- what the cut means

-- the rows of parts, one part after the other
abbrev pub joined : List Rows → Rows
joined [] = []
joined (part ∷ parts) = part ++ joined parts

-- one row more has no room in this part, if another row follows
abbrev pub IsFull : List (List ℕ) → Rows → List Rows → Type 0
IsFull columns part [] = Unit {0}
IsFull columns part ([] ∷ parts) = ⊥
IsFull columns part ((values ∷ rows) ∷ parts) = has_room columns (part ++ values ∷ []) ≡ false

-- each part has room in its body, or one row at most, and one row more has no room in it
abbrev pub AreGreedy : List (List ℕ) → List Rows → Type 0
AreGreedy columns [] = Unit {0}
AreGreedy columns (part ∷ parts) = ((has_room columns part ≡ true) ⊎ (length part ≤ 1)) × IsFull columns part parts × AreGreedy columns parts
