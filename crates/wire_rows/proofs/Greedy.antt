-- How many rows the first part takes.
use Rattle.std.proofs.Common.{◌≡◌, inl, inr, ◌+◌, ◌<◌, ◌≤◌, ℕ, zero, suc, min, max, Bool, true, false, List, [], ◌∷◌, ◌++◌, length, get_or, take, drop, refl, sym, ap, ◌∙◌, add-one, arith}
use Rattle.std.proofs.lemmas.List.{length-append, take_min, at_drop_all}
use Rattle.std.proofs.lemmas.Bool.{le-leb}
use Rattle.std.proofs.lemmas.Bool.Decides.{leb_tells}
use Rattle.std.proofs.Math.Dec.{leb}
use Rattle.wire_words.specs.declared.value.Value.{Value}
use Rattle.wire_words.specs.Values.{row}
use Rattle.wire_rows.specs.declared.part.More.{More}
use Rattle.wire_rows.specs.declared.part.More.TheVariants.{Last, Follows}
use Rattle.wire_rows.specs.Spelling.{head_bytes, rows_bytes, body_bytes, end_word}
use Rattle.wire_rows.specs.Cut.{Rows, has_room, largest, first_count}
use Rattle.wire_rows.specs.Answering.{held}

length_end : (more : More) → length (end_word more) ≡ 8
length_end Last = refl
length_end Follows = refl

-- how many bytes a body has with the first n rows
abbrev pub size_with : List (List ℕ) → Rows → ℕ → ℕ
size_with columns rows n = length (head_bytes columns) + 8 + length (rows_bytes (take n rows))

pub length_body : (columns : List (List ℕ)) (rows : Rows) (more : More) → length (body_bytes columns rows more) ≡ length (head_bytes columns) + 8 + length (rows_bytes rows)
length_body columns rows more =
    let parts : length (body_bytes columns rows more) ≡ length (head_bytes columns) + (length (rows_bytes rows) + length (end_word more)) = length-append (head_bytes columns) (rows_bytes rows ++ end_word more) ∙ ap (λ (n : ℕ). length (head_bytes columns) + n) (length-append (rows_bytes rows) (end_word more)) in
    let end : length (end_word more) ≡ 8 = length_end more in
    omega arith

pub body_sized : (columns : List (List ℕ)) (rows : Rows) (more : More) → held (length (body_bytes columns rows more)) ≡ held (held (held (length (head_bytes columns)) + 8) + length (rows_bytes rows))
body_sized columns rows more = rw (length_body columns rows more) (omega arith)

rows_next : (rows : Rows) (i : ℕ) (values : List Value) → i < length rows → length (rows_bytes (take (suc i) rows)) ≡ length (rows_bytes (take i rows)) + length (row (get_or rows i values))
rows_next [] i values lt = absurd (omega arith)
rows_next (r ∷ rows) zero values lt = let both : length (row r) + 0 ≡ 0 + length (row r) = omega arith in length-append (row r) [] ∙ both
rows_next (r ∷ rows) (suc i) values lt =
    let rest : length (rows_bytes (take (suc i) rows)) ≡ length (rows_bytes (take i rows)) + length (row (get_or rows i values)) = rows_next rows i values (omega arith) in
    let longer = length-append (row r) (rows_bytes (take (suc i) rows)) in
    let shorter = length-append (row r) (rows_bytes (take i rows)) in
    rw (longer, shorter) (omega arith)

-- one row more
pub rows_more : (rows : Rows) (i : ℕ) (values : List Value) → i < length rows → length (rows_bytes (take (i + 1) rows)) ≡ length (rows_bytes (take i rows)) + length (row (get_or rows i values))
rows_more rows i values lt = rw add-one (rows_next rows i values lt)

pub size_more : (columns : List (List ℕ)) (rows : Rows) (i : ℕ) (values : List Value) → i < length rows
    → held (held (size_with columns rows i) + held (length (row (get_or rows i values)))) ≡ held (size_with columns rows (i + 1))
size_more columns rows i values lt = rw (rows_more rows i values lt) (omega arith)

-- fewer rows have no more bytes
pub rows_fewer : (j k : ℕ) (rows : Rows) → j ≤ k → length (rows_bytes (take j rows)) ≤ length (rows_bytes (take k rows))
rows_fewer zero k rows le = omega arith
rows_fewer (suc j) zero rows le = absurd (omega arith)
rows_fewer (suc j) (suc k) [] le = omega arith
rows_fewer (suc j) (suc k) (r ∷ rows) le =
    let rest : length (rows_bytes (take j rows)) ≤ length (rows_bytes (take k rows)) = rows_fewer j k rows (omega arith) in
    let shorter = length-append (row r) (rows_bytes (take j rows)) in
    let longer = length-append (row r) (rows_bytes (take k rows)) in
    rw (shorter, longer) (omega arith)

-- the largest number that passes is one that passes and above which none does
largest_is : (passes : ℕ → Bool) (i n : ℕ) → i ≤ n → (0 < i → passes i ≡ true) → ((k : ℕ) → i < k → k ≤ n → passes k ≡ false) → largest passes n ≡ i
largest_is passes i zero le here above = omega arith
largest_is passes i (suc n) le here above =
    elim (leb_tells i n) [
      | inl w ↦
          let below : i ≤ n = w.1 in
          let lt : i < suc n = omega arith in
          let no : passes (suc n) ≡ false = above (suc n) lt (omega arith) in
          rw no (largest_is passes i n below here (λ k more within. above k more (omega arith)))
      | inr w ↦
          let behind : n < i = w.1 in
          let same : suc n ≡ i = omega arith in
          let yes : passes (suc n) ≡ true = ap passes same ∙ here (omega arith) in
          rw yes same
    ]

room_is : (n : ℕ) → n ≤ 65536 → leb n 65536 ≡ true
room_is n le = le-leb n 65536 le

no_room : (n : ℕ) → 65536 < n → leb n 65536 ≡ false
no_room n lt = elim (leb_tells n 65536) [ inl w ↦ let le : n ≤ 65536 = w.1 in absurd (omega arith) | inr w ↦ w.0 ]

-- the longest prefix that has room
longest_is : (columns : List (List ℕ)) (rows : Rows) (i : ℕ) → i ≤ length rows → (0 < i → size_with columns rows i ≤ 65536) → (i < length rows → 65536 < size_with columns rows (suc i))
    → largest (λ n. has_room columns (take n rows)) (length rows) ≡ i
longest_is columns rows i le room full =
    largest_is (λ n. has_room columns (take n rows)) i (length rows) le
    (λ some. rw (length_body columns (take i rows) Last) (room_is (size_with columns rows i) (room some)))
    (λ k more within.
    let past : 65536 < size_with columns rows (suc i) = full (omega arith) in
    let grown : length (rows_bytes (take (suc i) rows)) ≤ length (rows_bytes (take k rows)) = rows_fewer (suc i) k rows (omega arith) in
    rw (length_body columns (take k rows) Last) (no_room (size_with columns rows k) (omega arith)))

-- a part ends where one row more has no room, but it has one row at least
pub first_at : (columns : List (List ℕ)) (rows : Rows) (i before size : ℕ) → i < length rows → before ≡ held (size_with columns rows i) → (0 < i → before ≤ 65536)
    → size ≡ held (size_with columns rows (i + 1)) → 65536 < size → max i 1 ≡ min (first_count columns rows) (length rows)
unfolding first_count
first_at columns rows i before size lt was room is full =
    let next : size ≡ held (size_with columns rows (suc i)) = rw add-one at is in
    let longest : largest (λ n. has_room columns (take n rows)) (length rows) ≡ i = longest_is columns rows i (omega arith) (λ some. let small : before ≤ 65536 = room some in omega arith) (λ _. omega arith) in
    rw longest (omega arith)

-- or it takes all rows
pub first_all : (columns : List (List ℕ)) (rows : Rows) (i size : ℕ) → length rows ≤ i → i ≤ length rows → size ≡ held (size_with columns rows i) → (0 < i → size ≤ 65536)
    → length rows ≡ min (first_count columns rows) (length rows)
unfolding first_count
first_all columns rows i size all within is room =
    let whole : i ≡ length rows = omega arith in
    let longest : largest (λ n. has_room columns (take n rows)) (length rows) ≡ i = longest_is columns rows i within (λ some. let small : size ≤ 65536 = room some in omega arith) (λ more. absurd (omega arith)) in
    rw longest (omega arith)

pub take_counted : (n : ℕ) (rows : Rows) → take (min n (length rows)) rows ≡ take n rows
take_counted n rows = take_min n rows

pub drop_counted : (n : ℕ) (rows : Rows) → drop (min n (length rows)) rows ≡ drop n rows
drop_counted n rows =
    elim (leb_tells n (length rows)) [
      | inl w ↦ let le : n ≤ length rows = w.1 in let same : min n (length rows) ≡ n = omega arith in ap (λ (m : ℕ). drop m rows) same
      | inr w ↦ let lt : length rows < n = w.1 in at_drop_all (λ (rs : Rows). rs) rows (min n (length rows)) (omega arith) ∙ sym (at_drop_all (λ (rs : Rows). rs) rows n (omega arith))
    ]

pub one_at_least : (columns : List (List ℕ)) (rows : Rows) → 1 ≤ first_count columns rows
unfolding first_count
one_at_least columns rows = omega arith
