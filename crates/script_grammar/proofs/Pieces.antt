-- What a reader holds of a piece, and what is left of it.
use Rattle.std.proofs.Common.{◌≡◌, ℕ, suc, ◌+◌, ◌-◌, ◌<◌, ◌≤◌, List, ◌∷◌, ◌++◌, length, get_or, take, drop, refl, sym, ap, ◌∙◌, arith}
use Rattle.std.proofs.lemmas.List.{take-append-drop, drop-take, drop-drop, drop_more, get_or-take, get_or-drop, length-take, length-drop}

-- the first n bytes of a range, and the range after them
pub range_split : (piece : List ℕ) (start end n : ℕ) → start + n ≤ end
    → take (end - start) (drop start piece) ≡ take n (take (end - start) (drop start piece)) ++ take (end - (start + n)) (drop (start + n) piece)
range_split piece start end n fits =
    let size : end - start ≡ n + (end - (start + n)) = omega arith in
    let rest : drop n (take (end - start) (drop start piece)) ≡ take (end - (start + n)) (drop (start + n) piece) =
    ap (λ (m : ℕ). drop n (take m (drop start piece))) size ∙ drop-take n (end - (start + n)) (drop start piece)
    ∙ ap (λ (bytes : List ℕ). take (end - (start + n)) bytes) (drop-drop n start piece) in
    sym (take-append-drop n (take (end - start) (drop start piece))) ∙ ap (λ (bytes : List ℕ). take n (take (end - start) (drop start piece)) ++ bytes) rest

-- a range that begins with the byte b
pub range_byte : (piece : List ℕ) (start end b : ℕ) → start < end → end ≤ length piece → get_or piece start 0 ≡ b
    → take (end - start) (drop start piece) ≡ b ∷ take (end - (start + 1)) (drop (start + 1) piece)
range_byte piece start end b lt fits at =
    let size : end - start ≡ suc (end - (start + 1)) = omega arith in
    rw (drop_more piece start 0 (omega arith), size, at) refl

-- the byte at a place of a range
pub range_at : (piece : List ℕ) (start end n : ℕ) → n < end - start → get_or (take (end - start) (drop start piece)) n 0 ≡ get_or piece (start + n) 0
range_at piece start end n lt = get_or-take (end - start) (drop start piece) n 0 lt ∙ get_or-drop start piece n 0

pub length_range : (piece : List ℕ) (start end : ℕ) → length (take (end - start) (drop start piece)) ≤ end - start
length_range piece start end = omega (arith, length-take (end - start) (drop start piece))

pub length_range-fits : (piece : List ℕ) (start end : ℕ) → end ≤ length piece → length (take (end - start) (drop start piece)) ≡ end - start
length_range-fits piece start end fits = omega (arith, length-take (end - start) (drop start piece), length-drop start piece)
