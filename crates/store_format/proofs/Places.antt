-- Places in a file, counted from its start.
use Rattle.std.proofs.Common.{◌≡◌, ℕ, zero, suc, ◌+◌, ◌*◌, ◌≤◌, List, ◌++◌, length, drop, refl, ap, ◌∙◌, arith, length-drop}
use Rattle.std.proofs.lemmas.List.{drop-drop, get_or_append_left, drop-append-le}
use Rattle.byteorder.specs.Endian.{little_from, little_number}
use Rattle.store_format.specs.Words.{word_from}

pub behind_numbers : (x : List ℕ) → drop 24 (drop 8 x) ≡ drop 32 x
behind_numbers x = drop-drop 24 8 x

pub behind_sum : (x : List ℕ) → drop 8 (drop 32 x) ≡ drop 40 x
behind_sum x = drop-drop 8 32 x

pub behind_both : (x : List ℕ) → drop 8 (drop 24 (drop 8 x)) ≡ drop 40 x
behind_both x = ap (drop 8) (behind_numbers x) ∙ behind_sum x

-- a word at a place doesn't depend on what follows the bytes
pub little_front : (i n : ℕ) (x y : List ℕ) → i + n ≤ length x → little_from i n (x ++ y) ≡ little_from i n x
little_front i zero x y h = refl
little_front i (suc n) x y h =
    let here = get_or_append_left x y 0 i (omega arith) in
    let rest = little_front (suc i) n x y (omega arith) in
    λ j. here j + 256 * rest j

pub word_front : (k : ℕ) (x y : List ℕ) → k + 8 ≤ length x → word_from k (x ++ y) ≡ word_from k x
word_front k x y h =
    ap (little_number 8) (drop-append-le k x y (omega arith))
    ∙ little_front 0 8 (drop k x) y (omega (arith, length-drop k x))
