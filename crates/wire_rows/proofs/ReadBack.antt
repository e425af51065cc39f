-- What is written is read back.
use Rattle.std.proofs.Common.{◌≡◌, inl, inr, ◌+◌, ◌<◌, ◌≤◌, ℕ, zero, suc, Ok, List, [], ◌∷◌, ◌++◌, length, map, refl, sym, ap, subst, ◌∙◌, append_assoc, arith}
use Rattle.std.proofs.lemmas.List.{length-append}
use Rattle.std.proofs.lemmas.Bool.Decides.{leb_tells}
use Rattle.std.specs.List.{AllByRecursion}
use Rattle.wire_words.specs.declared.value.Value.{Value}
use Rattle.wire_words.specs.Items.{word, text, IsText, IsWord}
use Rattle.wire_words.specs.Values.{row, IsInRange, IsRow}
use Rattle.wire_words.specs.Reading.{Unread, unread, Took, word_at, text_at}
use Rattle.wire_words.specs.ReadingValues.{row_at}
use Rattle.wire_words.proofs.ReadBack.{word_again}
use Rattle.wire_words.proofs.Nul.{text_is_spelled, text_again}
use Rattle.wire_words.proofs.RowLaws.{row_again}
use Rattle.wire_words.proofs.SpellingLaws.{row_spelled}
use Rattle.wire_rows.specs.declared.part.More.{More}
use Rattle.wire_rows.specs.declared.part.More.TheVariants.{Last, Follows}
use Rattle.wire_rows.specs.declared.reading.Next.TheVariants.{Row, End}
use Rattle.wire_rows.specs.Spelling.{names_bytes, rows_bytes, end_word, body_bytes, HaveWidth}
use Rattle.wire_rows.specs.Cut.{Rows, cut, more_after, bodies, joined}
use Rattle.wire_rows.specs.Reading.{names_at, end_at, next_at, rows_at, part_of, read_as, IsName, IsSendable}
use Rattle.wire_rows.proofs.Ends.{next_is_end, next_is_row}
use Rattle.wire_rows.proofs.GreedyLaws.{all_rows}
use Rattle.wire_rows.proofs.Lengths.{length_row}

abbrev reader : ℕ → List ℕ → Unread
reader at bytes = record { at = at; bytes = bytes }

-- ---- names

names_again : (names : List (List ℕ)) (at : ℕ) (rest : List ℕ) → AllByRecursion IsName names
    → names_at (length names) (reader at (names_bytes names ++ rest)) ≡ Ok (names, reader (at + length (names_bytes names)) rest)
unfolding names_at
names_again [] at rest named = let same : at ≡ at + 0 = omega arith in ap (λ (n : ℕ). Ok ([], reader n rest)) same
names_again (name ∷ names) at rest named =
    let behind = names_bytes names ++ rest in
    let old = reader at (names_bytes (name ∷ names) ++ rest) in
    let mid = reader (at + length (text name)) behind in
    let t : Took (IsText name) old mid = record { item = text name; spelled = text_is_spelled name named.0.0 named.0.1; parts = append_assoc (text name) (names_bytes names) rest; place = refl } in
    let first : text_at old ≡ Ok (name, mid) = text_again old mid name t in
    let others = names_again names (at + length (text name)) rest named.1 in
    let size : at + length (text name) + length (names_bytes names) ≡ at + length (names_bytes (name ∷ names)) = simp (length-append (text name) (names_bytes names)) (omega arith) in
    rw (first, others) (ap (λ (n : ℕ). Ok (name ∷ names, reader n rest)) size)

-- ---- rows

end_again : (more : More) (count at : ℕ) → next_at count (reader at (end_word more)) ≡ Ok (End more, reader (at + 8) [])
unfolding end_at word_at
end_again Last count at = next_is_end count (reader at (end_word Last)) Last (End Last, reader (at + 8) []) refl refl
end_again Follows count at = next_is_end count (reader at (end_word Follows)) Follows (End Follows, reader (at + 8) []) refl refl

end_size : (more : More) → length (end_word more) ≡ 8
end_size Last = refl
end_size Follows = refl

rows_again : (n : ℕ) (rows : Rows) (count at : ℕ) (more : More) → length rows < n → (0 < length rows → 0 < count) → HaveWidth count rows → AllByRecursion (AllByRecursion IsInRange) rows
    → rows_at n count (reader at (rows_bytes rows ++ end_word more)) ≡ Ok ((rows, more), reader (at + length (rows_bytes rows) + 8) [])
unfolding rows_at
rows_again zero rows count at more lt columns wide fits = absurd (omega arith)
rows_again (suc n) [] count at more lt columns wide fits =
    let same : at + 8 ≡ at + 0 + 8 = omega arith in
    rw (end_again more count at) (ap (λ (m : ℕ). Ok (([], more), reader m [])) same)
rows_again (suc n) (values ∷ rows) count at more lt columns wide fits =
    let behind = rows_bytes rows ++ end_word more in
    let old = reader at (rows_bytes (values ∷ rows) ++ end_word more) in
    let mid = reader (at + length (row values)) behind in
    let t : Took (IsRow values) old mid = record { item = row values; spelled = row_spelled values fits.0; parts = append_assoc (row values) (rows_bytes rows) (end_word more); place = refl } in
    let width : length values ≡ count = wide.0 in
    let read : row_at count old ≡ Ok (values, mid) = ap (λ (k : ℕ). row_at k old) (sym width) ∙ row_again old mid values t in
    let some : 0 < count = columns (omega arith) in
    let left : length (rows_bytes (values ∷ rows) ++ end_word more) ≡ length (rows_bytes (values ∷ rows)) + 8 = length-append (rows_bytes (values ∷ rows)) (end_word more) ∙ ap (λ (m : ℕ). length (rows_bytes (values ∷ rows)) + m) (end_size more) in
    let bytes : 0 < length (rows_bytes (values ∷ rows) ++ end_word more) = omega (arith, left) in
    let first : next_at count old ≡ Ok (Row values, mid) = next_is_row count old mid values some bytes read in
    let others = rows_again n rows count (at + length (row values)) more (omega arith) (λ _. some) wide.1 fits.1 in
    let size : at + length (row values) + length (rows_bytes rows) + 8 ≡ at + length (rows_bytes (values ∷ rows)) + 8 = simp (length-append (row values) (rows_bytes rows)) (omega arith) in
    rw (first, others) (ap (λ (m : ℕ). Ok ((values ∷ rows, more), reader m [])) size)

-- each row takes a byte at least
rows_within : (rows : Rows) (count : ℕ) → 0 < count → HaveWidth count rows → length rows ≤ length (rows_bytes rows)
rows_within [] count some wide = omega arith
rows_within (values ∷ rows) count some wide =
    let width : length values ≡ count = wide.0 in
    let behind : length rows ≤ length (rows_bytes rows) = rows_within rows count some wide.1 in
    let both : length (rows_bytes (values ∷ rows)) ≡ length (row values) + length (rows_bytes rows) = length-append (row values) (rows_bytes rows) in
    let size = length_row values in
    omega (arith, size, both)

-- ---- a part

many_or_none : (columns : List (List ℕ)) (rows : Rows) (more : More) → IsSendable columns rows → length rows < length (rows_bytes rows ++ end_word more)
many_or_none columns rows more sent =
    let left : length (rows_bytes rows ++ end_word more) ≡ length (rows_bytes rows) + 8 = length-append (rows_bytes rows) (end_word more) ∙ ap (λ (m : ℕ). length (rows_bytes rows) + m) (end_size more) in
    elim (leb_tells 1 (length columns)) [
      | inl w ↦ let within = rows_within rows (length columns) w.1 sent.widths in omega arith
      | inr w ↦ let none : length columns < 1 = w.1 in let empty : length rows ≡ 0 = ap length (sent.no_columns (omega arith)) in omega arith
    ]

columns_of_some : (columns : List (List ℕ)) (rows : Rows) → IsSendable columns rows → 0 < length rows → 0 < length columns
columns_of_some columns rows sent some =
    elim (leb_tells 1 (length columns)) [
      | inl w ↦ w.1
      | inr w ↦ let none : length columns < 1 = w.1 in let empty : length rows ≡ 0 = ap length (sent.no_columns (omega arith)) in absurd (omega arith)
    ]

pub part_again : (columns : List (List ℕ)) (rows : Rows) (more : More) → IsSendable columns rows
    → part_of (body_bytes columns rows more) ≡ Ok (record { columns = columns; rows = rows }, more)
unfolding part_of
part_again columns rows more sent =
    let count = length columns in
    let bytes = rows_bytes rows ++ end_word more in
    let named = names_bytes columns ++ bytes in
    let parts : body_bytes columns rows more ≡ word count ++ named = append_assoc (word count) (names_bytes columns) bytes in
    let t : Took (IsWord count) (unread (body_bytes columns rows more)) (reader 8 named) = record { item = word count; spelled = record { fits = sent.count_fits; parts = refl }; parts = parts; place = refl } in
    let number : word_at (unread (body_bytes columns rows more)) ≡ Ok (count, reader 8 named) = word_again (unread (body_bytes columns rows more)) (reader 8 named) count t in
    let names = names_again columns 8 bytes sent.names in
    let read = rows_again (length bytes) rows count (8 + length (names_bytes columns)) more (many_or_none columns rows more sent) (columns_of_some columns rows sent) sent.widths sent.values in
    rw (number, names, read) refl

-- ---- the parts of an answer

all_of_part : {X : Type 0} (P : X → Type 0) (xs ys : List X) → AllByRecursion P (xs ++ ys) → AllByRecursion P xs × AllByRecursion P ys
all_of_part P [] ys all = (tt, all)
all_of_part P (x ∷ xs) ys all = let rest = all_of_part P xs ys all.1 in ((all.0, rest.0), rest.1)

no_rows_in : (part others : Rows) → part ++ others ≡ [] → (part ≡ []) × (others ≡ [])
no_rows_in [] others e = (refl, e)
no_rows_in (r ∷ part) others e = absurd cc

sent_parts : (columns : List (List ℕ)) (part others : Rows) → IsSendable columns (part ++ others) → IsSendable columns part × IsSendable columns others
sent_parts columns part others sent =
    let wide = all_of_part (λ (values : List Value). length values ≡ length columns) part others sent.widths in
    let fits = all_of_part (AllByRecursion IsInRange) part others sent.values in (
      record { count_fits = sent.count_fits; names = sent.names; widths = wide.0; values = fits.0; no_columns = λ none. (no_rows_in part others (sent.no_columns none)).0 },
      record { count_fits = sent.count_fits; names = sent.names; widths = wide.1; values = fits.1; no_columns = λ none. (no_rows_in part others (sent.no_columns none)).1 },
    )

bodies_again : (columns : List (List ℕ)) (parts : List Rows) → IsSendable columns (joined parts) → map part_of (bodies columns parts) ≡ read_as columns parts
bodies_again columns [] sent = refl
bodies_again columns (part ∷ parts) sent =
    let both = sent_parts columns part (joined parts) sent in
    let one : part_of (body_bytes columns part (more_after parts)) ≡ Ok (record { columns = columns; rows = part }, more_after parts) = part_again columns part (more_after parts) both.0 in
    let others = bodies_again columns parts both.1 in
    rw (one, others) refl

pub answer_again : (columns : List (List ℕ)) (rows : Rows) → IsSendable columns rows → map part_of (bodies columns (cut columns rows)) ≡ read_as columns (cut columns rows)
answer_again columns rows sent = bodies_again columns (cut columns rows) (subst (IsSendable columns) (sym (all_rows columns rows)) sent)
