-- How the bytes of a page are made: of a file's bytes and zeros, and of two lengths and zeros.
use Rattle.std.proofs.Common.{◌≡◌, ℕ, ◌-◌, min, List, [], ◌++◌, length, take, drop, refl, sym, ap, ◌∙◌, append_assoc, arith}
use Rattle.std.proofs.lemmas.List.{append-nil, take_at, drop_at, take_all, drop_all, take_min, drop-replicate, length-append, length-drop}
use Rattle.dq_base.specs.Images.{zeros, resized}
use Rattle.dq_base.proofs.FileBytes.{length-zeros}
use borrow.Rule.Slice.PartMut.{put_mid, post_of}

drop-zeros : (m n : ℕ) → drop m (zeros n) ≡ zeros (n - m)
unfolding zeros
drop-zeros m n = drop-replicate {X = ℕ} m n 0

-- the first bytes of a file over zeros
pub padded : (rest : List ℕ) (count : ℕ) → count ≡ min 4096 (length rest) → take count rest ++ drop count (zeros 4096) ≡ resized 4096 rest
unfolding resized
padded rest count e =
    let front : take count rest ≡ take 4096 rest = ap (λ (k : ℕ). take k rest) e ∙ take_min 4096 rest in
    let left : 4096 - count ≡ 4096 - length rest = omega arith in
    let back : drop count (zeros 4096) ≡ zeros (4096 - length rest) = drop-zeros count 4096 ∙ ap zeros left in
    rw (front, back) refl

-- two lengths written over zeros
pub two_lengths : (x y bytes rest : List ℕ) → length x ≡ 8 → length y ≡ 8 → bytes ≡ x ++ drop 8 (zeros 4096) → rest ≡ y ++ drop 8 (take 4088 (drop 8 bytes)) → put_mid 8 4088 bytes rest ≡ (x ++ y) ++ zeros 4080
two_lengths x y bytes rest x_len y_len bytes_is rest_is =
    let z : List ℕ = zeros 4088 in
    let z_len : length z ≡ 4088 = length-zeros 4088 in
    let tail : drop 8 (zeros 4096) ≡ z = drop-zeros 8 4096 in
    let whole : bytes ≡ x ++ z = bytes_is ∙ ap (λ (t : List ℕ). x ++ t) tail in
    let len : length bytes ≡ 4096 = ap length whole ∙ omega (arith, length-append x z) in
    let front : take 8 bytes ≡ x = ap (take 8) whole ∙ take_at x z 8 x_len in
    let after : drop 8 bytes ≡ z = ap (drop 8) whole ∙ drop_at x z 8 x_len in
    let kept : drop 8 (take 4088 (drop 8 bytes)) ≡ zeros 4080 = ap (λ (t : List ℕ). drop 8 (take 4088 t)) after ∙ ap (drop 8) (take_all 4088 z (omega arith)) ∙ drop-zeros 8 4088 in
    let middle : rest ≡ y ++ zeros 4080 = rest_is ∙ ap (λ (t : List ℕ). y ++ t) kept in
    let past : post_of 8 4088 bytes ≡ [] = drop_all 4088 (drop 8 bytes) (omega (arith, length-drop 8 bytes)) in
    ap (λ (t : List ℕ). t ++ (rest ++ post_of 8 4088 bytes)) front
    ∙ ap (λ (t : List ℕ). x ++ (rest ++ t)) past
    ∙ ap (λ (t : List ℕ). x ++ t) (append-nil rest ∙ middle)
    ∙ sym (append_assoc x y (zeros 4080))
