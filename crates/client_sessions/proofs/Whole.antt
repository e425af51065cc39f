-- The bodies of the rows of an answer are whole words, so that they can be written.
use Rattle.std.proofs.Common.{◌≡◌, ℕ, ◌%◌, List, [], ◌∷◌, ◌++◌, length, map, refl, arith, length-append}
use Rattle.std.specs.List.{AllByRecursion}
use Rattle.wire_words.specs.declared.value.Value.{Value}
use Rattle.wire_words.specs.declared.value.Value.TheVariants.{Integer, Text, Blob, Null}
use Rattle.wire_words.specs.Items.{word, raw, text}
use Rattle.wire_words.specs.Values.{value, values, row, halves, codes, types_of}
use Rattle.wire_words.proofs.Padding.{raw_is_padded}
use Rattle.wire_rows.specs.declared.part.More.{More}
use Rattle.wire_rows.specs.declared.part.More.TheVariants.{Last, Follows}
use Rattle.wire_rows.specs.Spelling.{names_bytes, head_bytes, rows_bytes, end_word, body_bytes}
use Rattle.wire_rows.specs.Cut.{bodies, more_after}
use Rattle.wire_msgs.specs.declared.response.Response.TheVariants as responses
use Rattle.wire_msgs.specs.Responses.{IsWritable}

both_whole : (xs ys : List ℕ) → length xs % 8 ≡ 0 → length ys % 8 ≡ 0 → length (xs ++ ys) % 8 ≡ 0
both_whole xs ys a b = let all = length-append xs ys in omega (arith, all, a, b)

raw_whole : (bytes : List ℕ) → length (raw bytes) % 8 ≡ 0
raw_whole bytes = (raw_is_padded bytes).whole

word_whole : (n : ℕ) → length (word n) % 8 ≡ 0
word_whole n = refl

value_whole : (v : Value) → length (value v) % 8 ≡ 0
value_whole (Integer n) = refl
value_whole (Text t) = raw_whole (t ++ 0 ∷ [])
value_whole (Blob b) = both_whole (word (length b)) (raw b) (word_whole (length b)) (raw_whole b)
value_whole Null = refl

values_whole : (vs : List Value) → length (values vs) % 8 ≡ 0
values_whole [] = refl
values_whole (v ∷ vs) = both_whole (value v) (values vs) (value_whole v) (values_whole vs)

row_whole : (vs : List Value) → length (row vs) % 8 ≡ 0
row_whole vs = both_whole (raw (halves (codes (types_of vs)))) (values vs) (raw_whole (halves (codes (types_of vs)))) (values_whole vs)

rows_whole : (rows : List (List Value)) → length (rows_bytes rows) % 8 ≡ 0
rows_whole [] = refl
rows_whole (vs ∷ rows) = both_whole (row vs) (rows_bytes rows) (row_whole vs) (rows_whole rows)

names_whole : (names : List (List ℕ)) → length (names_bytes names) % 8 ≡ 0
names_whole [] = refl
names_whole (name ∷ names) = both_whole (text name) (names_bytes names) (raw_whole (name ++ 0 ∷ [])) (names_whole names)

end_whole : (more : More) → length (end_word more) % 8 ≡ 0
end_whole Last = refl
end_whole Follows = refl

body_whole : (columns : List (List ℕ)) (rows : List (List Value)) (more : More) → length (body_bytes columns rows more) % 8 ≡ 0
body_whole columns rows more =
    both_whole (head_bytes columns) (rows_bytes rows ++ end_word more)
    (both_whole (word (length columns)) (names_bytes columns) (word_whole (length columns)) (names_whole columns))
    (both_whole (rows_bytes rows) (end_word more) (rows_whole rows) (end_whole more))

-- the parts of an answer can be written
pub parts_writable : (columns : List (List ℕ)) (parts : List (List (List Value)))
    → AllByRecursion IsWritable (map (λ (body : List ℕ). responses.Rows body) (bodies columns parts))
parts_writable columns [] = tt
parts_writable columns (part ∷ parts) = ((body_whole columns part (more_after parts), tt), parts_writable columns parts)
