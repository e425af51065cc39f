-- Two messages at the front of the same bytes are one.
use Rattle.std.proofs.Common.{◌≡◌, ℕ, ◌/◌, ◌%◌, ◌^◌, ◌<◌, List, [], ◌∷◌, ◌++◌, length, take, drop, get_or, refl, sym, ap, ◌∙◌, arith}
use Rattle.std.proofs.lemmas.List.{take_at, drop_at, append-nil}
use Rattle.byteorder.specs.Endian.{little_number}
use Rattle.byteorder.specs.Numbers.{little_number-reads_back}
use Rattle.wire_words.specs.Message.{message, IsBody}

-- whole words are as many bytes as eight times their number
same_length : (m n : ℕ) → m % 8 ≡ 0 → n % 8 ≡ 0 → m / 8 ≡ n / 8 → m ≡ n
same_length m n whole_m whole_n e = omega arith

-- what the first four bytes of a message say
count_read : (kind schema : ℕ) (body rest : List ℕ) → length body / 8 < 2 ^ 32 → little_number 4 (message kind schema body ++ rest) ≡ length body / 8
count_read kind schema body rest lt = little_number-reads_back 4 (length body / 8) (kind ∷ schema ∷ 0 ∷ 0 ∷ (body ++ rest)) lt

pub stand_apart : (kind other schema other_schema : ℕ) (body other_body rest other_rest : List ℕ) → IsBody body → IsBody other_body
    → message kind schema body ++ rest ≡ message other other_schema other_body ++ other_rest
    → (kind ≡ other) × (schema ≡ other_schema) × (body ≡ other_body) × (rest ≡ other_rest)
stand_apart kind kind' schema schema' body body' rest rest' fits fits' e =
    let count : length body / 8 ≡ length body' / 8 = sym (count_read kind schema body rest fits.1) ∙ ap (little_number 4) e ∙ count_read kind' schema' body' rest' fits'.1 in
    let len : length body ≡ length body' = same_length (length body) (length body') fits.0 fits'.0 count in
    let behind : body ++ rest ≡ body' ++ rest' = ap (drop 8) e in
    let bodies : body ≡ body' = sym (take_at body rest (length body) refl) ∙ ap (take (length body)) behind ∙ take_at body' rest' (length body) (sym len) in
    let rests : rest ≡ rest' = sym (drop_at body rest (length body) refl) ∙ ap (drop (length body)) behind ∙ drop_at body' rest' (length body) (sym len) in
    (ap (λ (bytes : List ℕ). get_or bytes 4 0) e, ap (λ (bytes : List ℕ). get_or bytes 5 0) e, bodies, rests)

pub no_prefix : (kind other schema other_schema : ℕ) (body other_body rest : List ℕ) → IsBody body → IsBody other_body
    → message kind schema body ++ rest ≡ message other other_schema other_body → rest ≡ []
no_prefix kind other schema other_schema body other_body rest fits other_fits e =
    (stand_apart kind other schema other_schema body other_body rest [] fits other_fits (e ∙ sym (append-nil (message other other_schema other_body)))).3
