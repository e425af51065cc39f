-- The checksum over two pieces, and that its sums have 32 bits.
use Rattle.std.proofs.Common.{◌≡◌, ℕ, zero, suc, ◌+◌, ◌*◌, ◌/◌, ◌%◌, ◌≤◌, List, [], ◌∷◌, ◌++◌, length, take, drop, ap, ap₂, ◌∙◌, arith, length-append, length-drop}
use Rattle.std.specs.Prelude.{fold}
use Rattle.std.specs.Simd.{first_chunks}
use Rattle.std.proofs.lemmas.List.{take-append-le, drop-append-le, nil_from_length}
use Rattle.std.proofs.lemmas.List.Sums.{fold-append}
use Rattle.wal_frames.specs.declared.checksums.WordOrder.{WordOrder}
use Rattle.wal_frames.specs.Checksum.{word_in, after_piece, sums_over, checksum}
use Rattle.wal_frames.specs.Text.{ArePair}

first_chunks-append : (k j : ℕ) (front back : List ℕ) → length front ≡ 8 * k → first_chunks 8 (k + j) (front ++ back) ≡ first_chunks 8 k front ++ first_chunks 8 j back
first_chunks-append zero j front back len =
    let none : front ≡ [] = nil_from_length front (omega arith) in
    let count : 0 + j ≡ j = omega arith in
    ap₂ (λ (n : ℕ) (f : List ℕ). first_chunks 8 n (f ++ back)) count none
first_chunks-append (suc k) j front back len =
    let long : 8 ≤ length front = omega arith in
    let count : suc k + j ≡ suc (k + j) = omega arith in
    let first : take 8 (front ++ back) ≡ take 8 front = take-append-le 8 front back long in
    let behind : drop 8 (front ++ back) ≡ drop 8 front ++ back = drop-append-le 8 front back long in
    let others = first_chunks-append k j (drop 8 front) back (omega (arith, length-drop 8 front)) in
    ap (λ (n : ℕ). first_chunks 8 n (front ++ back)) count
    ∙ ap₂ (λ (x : List ℕ) (y : List ℕ). x ∷ first_chunks 8 (k + j) y) first behind
    ∙ ap (λ (cs : List (List ℕ)). take 8 front ∷ cs) others

pub sums_over-append : (word : List ℕ → ℕ) (start : ℕ × ℕ) (front back : List ℕ) → length front % 8 ≡ 0 → sums_over word start (front ++ back) ≡ sums_over word (sums_over word start front) back
unfolding sums_over
sums_over-append word start front back whole =
    let len = length-append front back in
    let pieces : length (front ++ back) / 8 ≡ length front / 8 + length back / 8 = omega arith in
    let split = first_chunks-append (length front / 8) (length back / 8) front back (omega arith) in
    ap (λ (n : ℕ). fold (after_piece word) start (first_chunks 8 n (front ++ back))) pieces
    ∙ ap (fold (after_piece word) start) split
    ∙ fold-append (after_piece word) start (first_chunks 8 (length front / 8) front) (first_chunks 8 (length back / 8) back)

pub checksum-append : (order : WordOrder) (start : ℕ × ℕ) (front back : List ℕ) → length front % 8 ≡ 0 → checksum order start (front ++ back) ≡ checksum order (checksum order start front) back
checksum-append order start front back whole = sums_over-append (word_in order) start front back whole

after_piece-fits : (word : List ℕ → ℕ) (sums : ℕ × ℕ) (piece : List ℕ) → ArePair (after_piece word sums piece)
unfolding after_piece
after_piece-fits word sums piece = (omega arith, omega arith)

fold-fits : (word : List ℕ → ℕ) (start : ℕ × ℕ) (pieces : List (List ℕ)) → ArePair start → ArePair (fold (after_piece word) start pieces)
fold-fits word start [] fits = fits
fold-fits word start (p ∷ ps) fits = fold-fits word (after_piece word start p) ps (after_piece-fits word start p)

pub checksum-fits : (order : WordOrder) (start : ℕ × ℕ) (bytes : List ℕ) → ArePair start → ArePair (checksum order start bytes)
unfolding sums_over
checksum-fits order start bytes fits = fold-fits (word_in order) start (first_chunks 8 (length bytes / 8) bytes) fits
