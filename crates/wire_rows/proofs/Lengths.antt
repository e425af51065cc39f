-- How many bytes the items of a body have.
use Rattle.std.proofs.Common.{◌≡◌, ◌+◌, ◌*◌, ◌/◌, ◌^◌, ◌<◌, ◌≤◌, ℕ, suc, List, [], ◌∷◌, ◌++◌, length, drop, refl, sym, ap, ◌∙◌, add-zero, arith}
use Rattle.std.proofs.lemmas.List.{length-append, length-replicate, at_drop_all}
use Rattle.std.specs.Int.{div_ceil}
use Rattle.wire_words.specs.declared.value.Value.{Value}
use Rattle.wire_words.specs.Items.{gap, zeros_after, raw, text, blob, word}
use Rattle.wire_words.specs.Values.{halves, codes, types_of, values, row}
use Rattle.wire_rows.specs.Answering.{held}

-- rounding a number of bytes up to whole words by a division
pub rounded_up : (n : ℕ) → held (div_ceil n 8 * 8) ≡ held (n + gap n)
rounded_up n = ap held (omega arith)

pub length_raw : (bytes : List ℕ) → length (raw bytes) ≡ length bytes + gap (length bytes)
length_raw bytes = length-append bytes (zeros_after (length bytes)) ∙ ap (λ (n : ℕ). length bytes + n) (length-replicate (gap (length bytes)) 0)

pub length_text : (t : List ℕ) → held (held (length t + 1) + gap (held (length t + 1))) ≡ held (length (text t))
length_text t =
    let size : length (text t) ≡ length t + 1 + gap (length t + 1) = length_raw (t ++ 0 ∷ []) ∙ ap (λ (n : ℕ). n + gap n) (length-append t (0 ∷ [])) in
    rw size (omega arith)

pub length_blob : (bytes : List ℕ) → held (held (length bytes + gap (length bytes)) + 8) ≡ held (length (blob bytes))
length_blob bytes =
    let size : length (blob bytes) ≡ 8 + length (raw bytes) = length-append (word (length bytes)) (raw bytes) in
    rw (size, length_raw bytes) (omega arith)

length_halves : (ns : List ℕ) → length (halves ns) ≡ (length ns + 1) / 2
length_halves [] = refl
length_halves (a ∷ []) = refl
length_halves (a ∷ b ∷ ns) = let rest : length (halves ns) ≡ (length ns + 1) / 2 = length_halves ns in omega arith

length_codes_of : (vs : List Value) → length (codes (types_of vs)) ≡ length vs
length_codes_of [] = refl
length_codes_of (v ∷ vs) = ap suc (length_codes_of vs)

-- a row is its codes, two in a byte and filled up to whole words, and its values
pub length_row : (vs : List Value) → length (row vs) ≡ (length vs + 1) / 2 + gap ((length vs + 1) / 2) + length (values vs)
length_row vs =
    let codes_size : length (halves (codes (types_of vs))) ≡ (length vs + 1) / 2 = length_halves (codes (types_of vs)) ∙ ap (λ (n : ℕ). (n + 1) / 2) (length_codes_of vs) in
    length-append (raw (halves (codes (types_of vs)))) (values vs) ∙ ap (λ (n : ℕ). n + length (values vs)) (length_raw (halves (codes (types_of vs))) ∙ ap (λ (n : ℕ). n + gap n) codes_size)

pub length_codes : (vs : List Value) → held (held (div_ceil (length vs) 2 + gap (div_ceil (length vs) 2)) + length (values vs)) ≡ held (length (row vs))
length_codes vs =
    let half : div_ceil (length vs) 2 ≡ (length vs + 1) / 2 = omega arith in
    rw (half, length_row vs) (omega arith)

-- a sum that was taken to the end of a list is the whole
pub sum_done : {X : Type 0} (F : List X → ℕ) (xs : List X) (i size total : ℕ) → F [] ≡ 0 → length xs ≤ i → size < 2 ^ 64 → held (size + F (drop i xs)) ≡ total → size ≡ total
sum_done F xs i size total none all fits so_far =
    let rest : F (drop i xs) ≡ 0 = at_drop_all F xs i all ∙ none in
    let whole : held size ≡ total = rw (rest, add-zero) at so_far in
    let same : held size ≡ size = omega arith in
    sym same ∙ whole
