-- Words come into a sum.
use Rattle.std.proofs.Common.{◌≡◌, ◌≢◌, ◌≤◌, ◌+◌, ◌*◌, ◌-◌, ◌/◌, ◌%◌, ℕ, zero, suc, List, ◌++◌, length, drop}
use Rattle.std.proofs.Common.{refl, sym, ap, ◌∙◌, arith, length-append}
use Rattle.std.proofs.lemmas.List.{drop_at, drop-drop}
use Rattle.byteorder.specs.Endian.{little_bytes, little_number}
use Rattle.store_format.specs.Sums.{mixed, mixed_over, words_in, mix_start, mix_ended, word_sum_of}
use Rattle.store_format.specs.Words.{word_from}
use Rattle.store_format.proofs.Places.{word_front}

pub mix_none : (state : ℕ) (bytes : List ℕ) → mixed_over state zero bytes ≡ state
unfolding mixed_over
mix_none state bytes = refl

pub mix_more : (state n : ℕ) (bytes : List ℕ) → mixed_over state (n + 1) bytes ≡ mixed (mixed_over state n bytes) (word_from (8 * n) bytes)
unfolding mixed_over
mix_more state n bytes = ap (λ (m : ℕ). mixed_over state m bytes) more
  where
    more : n + 1 ≡ suc n
    more = omega arith

-- whole words in front
front_words : (state n : ℕ) (x y : List ℕ) → 8 * n ≤ length x → mixed_over state n (x ++ y) ≡ mixed_over state n x
unfolding mixed_over
front_words state zero x y h = refl
front_words state (suc n) x y h = λ i. mixed (front_words state n x y (omega arith) i) (word_front (8 * n) x y (omega arith) i)

-- and what follows them
back_words : (state k n : ℕ) (x y : List ℕ) → length x ≡ 8 * k → mixed_over state (k + n) (x ++ y) ≡ mixed_over (mixed_over state k x) n y
unfolding mixed_over
back_words state k zero x y h =
    let none : k + 0 ≡ k = omega arith in
    ap (λ (m : ℕ). mixed_over state m (x ++ y)) none ∙ front_words state k x y (omega arith)
back_words state k (suc n) x y h =
    let next : k + suc n ≡ suc (k + n) = omega arith in
    ap (λ (m : ℕ). mixed_over state m (x ++ y)) next
    ∙ (λ i. mixed (back_words state k n x y h i) (little_number 8 (skipped i)))
  where
    places : 8 * (k + n) ≡ 8 * k + 8 * n
    places = omega arith

    skipped : drop (8 * (k + n)) (x ++ y) ≡ drop (8 * n) y
    skipped =
        ap (λ (m : ℕ). drop m (x ++ y)) places
        ∙ sym (drop-drop (8 * n) (8 * k) (x ++ y))
        ∙ ap (drop (8 * n)) (drop_at x y (8 * k) h)

pub both_pieces : (x y : List ℕ) (a b size : ℕ) (sum : List ℕ) → length x % 8 ≡ 0
    → a ≡ mixed_over mix_start (words_in (length x)) x → b ≡ mixed_over a (words_in (length y)) y
    → size ≡ length x + length y → sum ≡ little_bytes 8 (mix_ended b size) → sum ≡ word_sum_of (x ++ y)
unfolding word_sum_of
both_pieces x y a b size sum whole ea eb es is =
    let k = length x / 8 in
    let n = words_in (length y) in
    let long : length x ≡ 8 * k = omega arith in
    let front : words_in (length x) ≡ k = omega arith in
    let all : words_in (length (x ++ y)) ≡ k + n = ap words_in (length-append x y) ∙ omega arith in
    let state : b ≡ mixed_over mix_start (words_in (length (x ++ y))) (x ++ y) =
    eb ∙ ap (λ (s : ℕ). mixed_over s n y) (ea ∙ ap (λ (m : ℕ). mixed_over mix_start m x) front)
    ∙ sym (back_words mix_start k n x y long) ∙ ap (λ (m : ℕ). mixed_over mix_start m (x ++ y)) (sym all) in
    is ∙ (λ i. little_bytes 8 (mix_ended (state i) ((es ∙ sym (length-append x y)) i)))

-- all words, by the whole ones and what is left of the last one
pub whole_words : (start a : ℕ) (bytes : List ℕ) → a ≡ mixed_over start (length bytes / 8) bytes
    → length bytes % 8 ≡ 0 → a ≡ mixed_over start (words_in (length bytes)) bytes
whole_words start a bytes is none = is ∙ ap (λ (n : ℕ). mixed_over start n bytes) all
  where
    all : length bytes / 8 ≡ words_in (length bytes)
    all = omega arith

pub one_word_more : (start a b x : ℕ) (bytes last : List ℕ) → a ≡ mixed_over start (length bytes / 8) bytes → length bytes % 8 ≢ 0
    → last ≡ drop (length bytes - length bytes % 8) bytes → x ≡ little_number 8 last → b ≡ mixed a x
    → b ≡ mixed_over start (words_in (length bytes)) bytes
unfolding mixed_over
one_word_more start a b x bytes last is some rest word end =
    let number : x ≡ little_number 8 (drop (8 * (length bytes / 8)) bytes) =
    word ∙ ap (little_number 8) (rest ∙ ap (λ (n : ℕ). drop n bytes) place) in
    end ∙ (λ i. mixed (is i) (number i)) ∙ ap (λ (n : ℕ). mixed_over start n bytes) all
  where
    place : length bytes - length bytes % 8 ≡ 8 * (length bytes / 8)
    place = omega arith

    all : suc (length bytes / 8) ≡ words_in (length bytes)
    all = omega (arith, some)
