-- Two numbers of 32 bits and their eight bytes: each is read from the other.
use Rattle.std.proofs.Common.{◌≡◌, ℕ, ◌+◌, ◌≤◌, List, [], ◌++◌, length, take, drop, refl, sym, ap, ap₂, ◌∙◌, arith, inl, inr, append_assoc, length-drop, length-take}
use Rattle.std.specs.Int.{w32, from_be_bytes}
use Rattle.std.proofs.lemmas.Bool.{cases_lt}
use Rattle.std.proofs.lemmas.List.{length-take-le, get_or-take, get_or-drop, get_or_past, take_at, drop_at, drop_all, append-nil}
use Rattle.std.proofs.Math.Seq.{take-add}
use Rattle.std.proofs.lemmas.Nat.{be_bytes_4}
use Rattle.byteorder.specs.Endian.{big_bytes, big_number}
use Rattle.byteorder.specs.Numbers.{big_from-take, big_number-reads_back, big_from-lt}
use Rattle.wal_frames.specs.Text.{pair, pair_of, ArePair, AreBytes}

pub AreBytes-take : (n : ℕ) (bytes : List ℕ) → AreBytes bytes → AreBytes (take n bytes)
AreBytes-take n bytes h i =
    elim (cases_lt i n) [
      | inl lt ↦ rw (get_or-take n bytes i 0 lt) (h i)
      | inr le ↦ rw (get_or_past (take n bytes) i 0 (omega (arith, length-take n bytes))) (omega arith)
    ]

pub AreBytes-drop : (n : ℕ) (bytes : List ℕ) → AreBytes bytes → AreBytes (drop n bytes)
AreBytes-drop n bytes h i = rw get_or-drop (h (n + i))

be_number_4 : (bytes : List ℕ) → big_number 4 bytes ≡ from_be_bytes w32 bytes
be_number_4 bytes = omega arith

bytes_of_number : (bytes : List ℕ) → 4 ≤ length bytes → AreBytes bytes → big_bytes 4 (big_number 4 bytes) ≡ take 4 bytes
bytes_of_number bytes long fits =
    be_bytes_4 (take 4 bytes) (big_number 4 bytes) (length-take-le 4 bytes long) (AreBytes-take 4 bytes fits)
    (sym (big_from-take 0 4 4 bytes (omega arith)) ∙ be_number_4 (take 4 bytes))

pub length-pair : (numbers : ℕ × ℕ) → length (pair numbers) ≡ 8
unfolding pair
length-pair numbers = refl

-- what was written is read, whatever follows
pub pair_of-pair : (numbers : ℕ × ℕ) (rest : List ℕ) → ArePair numbers → pair_of (pair numbers ++ rest) ≡ numbers
unfolding pair pair_of
pair_of-pair numbers rest fits =
    let split : pair numbers ++ rest ≡ big_bytes 4 numbers.0 ++ (big_bytes 4 numbers.1 ++ rest) = append_assoc (big_bytes 4 numbers.0) (big_bytes 4 numbers.1) rest in
    let one : big_number 4 (pair numbers ++ rest) ≡ numbers.0 = ap (big_number 4) split ∙ big_number-reads_back 4 numbers.0 (big_bytes 4 numbers.1 ++ rest) fits.0 in
    let behind : drop 4 (pair numbers ++ rest) ≡ big_bytes 4 numbers.1 ++ rest = ap (drop 4) split ∙ drop_at (big_bytes 4 numbers.0) (big_bytes 4 numbers.1 ++ rest) 4 refl in
    let two : big_number 4 (drop 4 (pair numbers ++ rest)) ≡ numbers.1 = ap (big_number 4) behind ∙ big_number-reads_back 4 numbers.1 rest fits.1 in
    ap₂ (λ (a b : ℕ). let both : ℕ × ℕ = (a, b) in both) one two

-- what was read is there
pub pair-pair_of : (bytes : List ℕ) → 8 ≤ length bytes → AreBytes bytes → pair (pair_of bytes) ≡ take 8 bytes
unfolding pair pair_of
pair-pair_of bytes long fits =
    let one = bytes_of_number bytes (omega arith) fits in
    let two = bytes_of_number (drop 4 bytes) (omega (arith, length-drop 4 bytes)) (AreBytes-drop 4 bytes fits) in
    ap₂ (λ (a b : List ℕ). a ++ b) one two ∙ sym (take-add 4 4 bytes)

pub pair_of-fits : (bytes : List ℕ) → AreBytes bytes → ArePair (pair_of bytes)
unfolding pair_of
pair_of-fits bytes fits =
    let one = big_from-lt 0 4 bytes fits in
    let two = big_from-lt 0 4 (drop 4 bytes) (AreBytes-drop 4 bytes fits) in
    (omega arith, omega arith)

-- a piece put after the first of some bytes
pub piece_behind : (n : ℕ) (first tail second : List ℕ) → length first ≡ 8 → length tail ≡ n → take 8 (first ++ tail) ++ (second ++ drop n (drop 8 (first ++ tail))) ≡ first ++ second
piece_behind n first tail second len long =
    let front : take 8 (first ++ tail) ≡ first = take_at first tail 8 len in
    let none : drop n (drop 8 (first ++ tail)) ≡ [] = ap (drop n) (drop_at first tail 8 len) ∙ drop_all n tail (omega arith) in
    ap₂ (λ (x y : List ℕ). x ++ (second ++ y)) front none ∙ ap (λ (x : List ℕ). first ++ x) (append-nil second)
