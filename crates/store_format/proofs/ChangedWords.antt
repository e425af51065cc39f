-- A change within one word is found: each step of the sum over words is one to one.
use Rattle.std.proofs.Common.{◌≡◌, ◌≢◌, ◌⊎◌, ◌<◌, ◌≤◌, ◌+◌, ◌*◌, ◌-◌, ◌/◌, ◌%◌, ◌^◌, ℕ, zero, suc}
use Rattle.std.proofs.Common.{List, [], ◌++◌, length, take, drop, refl, sym, ap, ◌∙◌, inl, inr, arith}
use Rattle.std.specs.Prelude.{slice_index, get_or, bit_or, bit_xor}
use Rattle.std.specs.Int.{w64, rotate_left}
use Rattle.std.specs.Int.Bits.{xor_assoc, xor_self, xor_zero_l, xor_zero_r}
use Rattle.std.proofs.lemmas.Bool.{cases_lt}
use Rattle.std.proofs.lemmas.Nat.{xor_lt, or_lt, or_shifted, shl-shr, shr_below, mod_below, mod-pow-add, shr_split, same_from_place}
use Rattle.std.proofs.lemmas.Nat.{mul-mod_first, mul-mod_second}
use Rattle.std.proofs.Math.Nat.{mul-mod_left}
use Rattle.std.proofs.lemmas.List.{take_all, ext_get_or, get_or-drop, get_or-take}
use Rattle.byteorder.specs.Endian.{little_bytes, little_number, little_from}
use Rattle.byteorder.specs.Numbers.{little_number-reads_back, little_from-lt}
use Rattle.wire_words.specs.Items.{AreBytes}
use Rattle.wire_words.proofs.Numbers.{AreBytes-drop}
use Rattle.store_format.specs.Sums.{mix_factor, mixed, mixed_over, words_in, mix_start, mix_ended, word_sum_of}
use Rattle.store_format.specs.Sums.{DifferInWord, FindsChangedWords}

abbrev top : ℕ
top = 2 ^ 64

-- ---- one step

-- what the factor is undone by
abbrev inverse : ℕ
inverse = 614540362697595703

odd : (mix_factor * inverse) % top ≡ 1
odd = refl

times_undone : (p : ℕ) → p < top → ((p * mix_factor) % top * inverse) % top ≡ p
times_undone p h =
    mul-mod_first (p * mix_factor) inverse top
    ∙ ap (λ (n : ℕ). n % top) turned
    ∙ sym (mul-mod_second p (mix_factor * inverse) top)
    ∙ ap (λ (n : ℕ). (p * n) % top) odd
    ∙ omega arith
  where
    turned : p * mix_factor * inverse ≡ p * (mix_factor * inverse)
    turned = omega arith

times_same : (p q : ℕ) → p < top → q < top → (p * mix_factor) % top ≡ (q * mix_factor) % top → p ≡ q
times_same p q hp hq e = sym (times_undone p hp) ∙ ap (λ (n : ℕ). (n * inverse) % top) e ∙ times_undone q hq

low_half : (p : ℕ) → (p * 2 ^ 31) % top ≡ p % 2 ^ 33 * 2 ^ 31
low_half p =
    mod-pow-add (p * 2 ^ 31) 33 31
    ∙ (λ i. (shl-shr p 31 i) % 2 ^ 33 * 2 ^ 31 + mul-mod_left p (2 ^ 31) i)
    ∙ omega arith

turned_is : (p : ℕ) → p < top → rotate_left w64 p 31 ≡ p % 2 ^ 33 * 2 ^ 31 + p / 2 ^ 33
turned_is p h =
    ap (λ (n : ℕ). bit_or n (p / 2 ^ 33)) (low_half p)
    ∙ or_shifted (p % 2 ^ 33) 31 (p / 2 ^ 33) (shr_below p 31 33 h)

turned_same : (p q : ℕ) → p < top → q < top → rotate_left w64 p 31 ≡ rotate_left w64 q 31 → p ≡ q
turned_same p q hp hq e =
    let is = sym (turned_is p hp) ∙ e ∙ turned_is q hq in
    let lp = shr_below p 31 33 hp in
    let lq = shr_below q 31 33 hq in
    let both = same_from_place (p % 2 ^ 33) (p / 2 ^ 33) (q % 2 ^ 33) (q / 2 ^ 33) (2 ^ 31) lp lq is in
    sym (shr_split p 33) ∙ (λ i. both.1 i * 2 ^ 33 + both.0 i) ∙ shr_split q 33

abbrev times : ℕ → ℕ
times n = (n * mix_factor) % top

times_below : (n : ℕ) → times n < top
times_below n = mod_below (n * mix_factor) top (omega arith)

step_below : (a x : ℕ) → mixed a x < top
step_below a x =
    let p = times (bit_xor a x) in
    let h : p < top = times_below (bit_xor a x) in
    or_lt 64 ((p * 2 ^ 31) % top) (p / 2 ^ 33) (mod_below (p * 2 ^ 31) top (omega arith)) (omega arith)

xors_same : (a x b y : ℕ) → a < top → x < top → b < top → y < top → mixed a x ≡ mixed b y → bit_xor a x ≡ bit_xor b y
xors_same a x b y ha hx hb hy e =
    let p = bit_xor a x in
    let q = bit_xor b y in
    times_same p q (xor_lt 64 a x ha hx) (xor_lt 64 b y hb hy) (turned_same (times p) (times q) (times_below p) (times_below q) e)

states_same : (a b x : ℕ) → a < top → b < top → x < top → mixed a x ≡ mixed b x → a ≡ b
states_same a b x ha hb hx e = sym (undone a) ∙ ap (λ (n : ℕ). bit_xor n x) (xors_same a x b x ha hx hb hx e) ∙ undone b
  where
    undone : (c : ℕ) → bit_xor (bit_xor c x) x ≡ c
    undone c = xor_assoc c x x ∙ ap (bit_xor c) (xor_self x) ∙ xor_zero_r c

words_same : (a x y : ℕ) → a < top → x < top → y < top → mixed a x ≡ mixed a y → x ≡ y
words_same a x y ha hx hy e = sym (undone x) ∙ ap (bit_xor a) (xors_same a x a y ha hx ha hy e) ∙ undone y
  where
    undone : (c : ℕ) → bit_xor a (bit_xor a c) ≡ c
    undone c = sym (xor_assoc a a c) ∙ ap (λ (n : ℕ). bit_xor n c) (xor_self a) ∙ xor_zero_l c

-- ---- numbers and bytes

-- the same n bytes from a place on
abbrev SameFrom : ℕ → ℕ → List ℕ → List ℕ → Type 0
SameFrom i n x y = (j : ℕ) → j < n → slice_index x (i + j) ≡ slice_index y (i + j)

module _ (x y : List ℕ) (bx : AreBytes x) (hy : AreBytes y) where
  numbers_same : (n i : ℕ) → little_from i n x ≡ little_from i n y → SameFrom i n x y
  numbers_same zero i e j h = absurd (omega arith)
  numbers_same (suc n) i e j h =
      let one : slice_index x i < 256 = bx i in
      let two : slice_index y i < 256 = hy i in
      let here : slice_index x i ≡ slice_index y i = omega (arith, e) in
      let rest : little_from (suc i) n x ≡ little_from (suc i) n y = omega (arith, e) in
      at j h here (λ k below. numbers_same n (suc i) rest k below)
    where
      at : (j : ℕ) → j < suc n → slice_index x i ≡ slice_index y i → SameFrom (suc i) n x y → slice_index x (i + j) ≡ slice_index y (i + j)
      at zero h here rest =
          let none : i + 0 ≡ i = omega arith in
          ap (slice_index x) none ∙ here ∙ ap (slice_index y) (sym none)
      at (suc k) h here rest =
          let turned : i + suc k ≡ suc i + k = omega arith in
          ap (slice_index x) turned ∙ rest k (omega arith) ∙ ap (slice_index y) (sym turned)

number_by : (u v : List ℕ) (i n : ℕ) → ((j : ℕ) → i ≤ j → j < i + n → slice_index u j ≡ slice_index v j)
    → little_from i n u ≡ little_from i n v
number_by u v i zero each = refl
number_by u v i (suc n) each =
    let rest = number_by u v (suc i) n (λ j a b. each j (omega arith) (omega arith)) in
    λ k. each i (omega arith) (omega arith) k + 256 * rest k

-- ---- all words

abbrev word_at : ℕ → List ℕ → ℕ
word_at n x = little_number 8 (drop (8 * n) x)

word_below : (n : ℕ) (x : List ℕ) → AreBytes x → word_at n x < top
word_below n x b = little_from-lt 0 8 (drop (8 * n) x) (AreBytes-drop (8 * n) x b)

abbrev state : ℕ → List ℕ → ℕ
state n x = mixed_over mix_start n x

state_below : (n : ℕ) (x : List ℕ) → state n x < top
unfolding mixed_over
state_below zero x = omega arith
state_below (suc n) x = step_below (state n x) (word_at n x)

module _ (place : ℕ) (x y : List ℕ) (d : DifferInWord place x y) where
  byte_before : (i : ℕ) → i < 8 * place → slice_index x i ≡ slice_index y i
  byte_before i h = sym (get_or-take (8 * place) x i 0 h) ∙ ap (λ (l : List ℕ). get_or l i 0) d.front ∙ get_or-take (8 * place) y i 0 h

  byte_behind : (i : ℕ) → 8 * suc place ≤ i → slice_index x i ≡ slice_index y i
  byte_behind i h =
      let n = 8 * suc place in
      let is : n + (i - n) ≡ i = omega arith in
      ap (slice_index x) (sym is) ∙ sym (get_or-drop n x (i - n) 0)
      ∙ ap (λ (l : List ℕ). get_or l (i - n) 0) d.behind
      ∙ get_or-drop n y (i - n) 0 ∙ ap (slice_index y) is

  same_word : (n : ℕ) → n ≢ place → word_at n x ≡ word_at n y
  same_word n other =
      number_by (drop (8 * n) x) (drop (8 * n) y) 0 8
      (λ j a b. get_or-drop (8 * n) x j 0 ∙ one j b (cases_lt (8 * n + j) (8 * place)) ∙ sym (get_or-drop (8 * n) y j 0))
    where
      past : (n place j : ℕ) → j < 0 + 8 → n ≢ place → 8 * place ≤ 8 * n + j → 8 * suc place ≤ 8 * n + j
      past n place j b other le = elim (cases_lt (8 * n + j) (8 * suc place)) [
        | inl lt ↦ absurd (other (omega arith))
        | inr ok ↦ ok
      ]

      one : (j : ℕ) → j < 0 + 8 → (8 * n + j < 8 * place) ⊎ (8 * place ≤ 8 * n + j) → slice_index x (8 * n + j) ≡ slice_index y (8 * n + j)
      one j b (inl lt) = byte_before (8 * n + j) lt
      one j b (inr le) = byte_behind (8 * n + j) (past n place j b other le)

  same_front : (n : ℕ) → n ≤ place → state n x ≡ state n y
  unfolding mixed_over
  same_front zero h = refl
  same_front (suc n) h = λ i. mixed (same_front n (omega arith) i) (same_word n (λ e. absurd (omega (arith, e))) i)

  -- back from more words to the one that differs
  peeled : (n : ℕ) → state (suc place + n) x ≡ state (suc place + n) y → state (suc place) x ≡ state (suc place) y
  unfolding mixed_over
  peeled zero e =
      let none : suc place + 0 ≡ suc place = omega arith in
      ap (λ (m : ℕ). state m x) (sym none) ∙ e ∙ ap (λ (m : ℕ). state m y) none
  peeled (suc n) e =
      let m = suc place + n in
      let word : word_at m x ≡ word_at m y = same_word m (λ q. absurd (omega (arith, q))) in
      let next : suc place + suc n ≡ suc m = omega arith in
      let both : mixed (state m x) (word_at m x) ≡ mixed (state m y) (word_at m y) =
      ap (λ (k : ℕ). state k x) (sym next) ∙ e ∙ ap (λ (k : ℕ). state k y) next in
      let one : mixed (state m x) (word_at m x) ≡ mixed (state m y) (word_at m x) = both ∙ ap (mixed (state m y)) (sym word) in
      peeled n (states_same (state m x) (state m y) (word_at m x) (state_below m x) (state_below m y) (word_below m x d.bytes) one)

  last_same : state (suc place) x ≡ state (suc place) y → word_at place x ≡ word_at place y
  unfolding mixed_over
  last_same e =
      let one : mixed (state place x) (word_at place x) ≡ mixed (state place x) (word_at place y) =
      e ∙ ap (λ (s : ℕ). mixed s (word_at place y)) (sym (same_front place (omega arith))) in
      words_same (state place x) (word_at place x) (word_at place y) (state_below place x)
      (word_below place x d.bytes) (word_below place y d.others) one

  -- a byte before the word, in it, or past it
  byte_same : word_at place x ≡ word_at place y → (i : ℕ) → (i < 8 * place) ⊎ (8 * place ≤ i) → (i < 8 * suc place) ⊎ (8 * suc place ≤ i)
      → slice_index x i ≡ slice_index y i
  byte_same word i (inl lt) c = byte_before i lt
  byte_same word i (inr ge) (inr behind) = byte_behind i behind
  byte_same word i (inr ge) (inl lt) =
      let n = 8 * place in
      let j = i - n in
      let none : 0 + j ≡ j = omega arith in
      let is : n + j ≡ i = omega arith in
      let u = drop n x in
      let v = drop n y in
      let same = numbers_same u v (AreBytes-drop n x d.bytes) (AreBytes-drop n y d.others) 8 0 word j (omega arith) in
      ap (slice_index x) (sym is) ∙ sym (get_or-drop n x j 0) ∙ ap (slice_index u) (sym none) ∙ same
      ∙ ap (slice_index v) none ∙ get_or-drop n y j 0 ∙ ap (slice_index y) is

  all_same : state (suc place) x ≡ state (suc place) y → x ≡ y
  all_same e = ext_get_or 0 x y d.long (λ i h. byte_same (last_same e) i (cases_lt i (8 * place)) (cases_lt i (8 * suc place)))

  -- a place past all bytes
  none_there : length x ≤ 8 * place → x ≡ y
  none_there h = sym (take_all (8 * place) x h) ∙ d.front ∙ take_all (8 * place) y (omega (arith, d.long))

  by_place : (n : ℕ) → n ≡ words_in (length x) → (place < n) ⊎ (n ≤ place) → state n x ≡ state n y → x ≡ y
  by_place n is (inr past) s = none_there (omega arith)
  by_place n is (inl within) s =
      let m = n - suc place in
      let all : suc place + m ≡ n = omega arith in
      all_same (peeled m (ap (λ (k : ℕ). state k x) all ∙ s ∙ ap (λ (k : ℕ). state k y) (sym all)))

-- the end is one to one as well
ended_same : (a b size : ℕ) → a < top → b < top → size < top → mix_ended a size ≡ mix_ended b size → a ≡ b
ended_same a b size ha hb hs e =
    let p = mixed a size in
    let q = mixed b size in
    let f = mix_factor in
    let one = states_same (mixed p f) (mixed q f) f (step_below p f) (step_below q f) (omega arith) e in
    states_same a b size ha hb hs (states_same p q f (step_below a size) (step_below b size) (omega arith) one)

-- and so are its bytes
number_of : (s size : ℕ) → little_number 8 (little_bytes 8 (mix_ended s size) ++ []) ≡ mix_ended s size
number_of s size = little_number-reads_back 8 (mix_ended s size) [] (step_below (mixed (mixed s size) mix_factor) mix_factor)

sums_differ : (place : ℕ) (x y : List ℕ) → DifferInWord place x y → word_sum_of x ≢ word_sum_of y
unfolding word_sum_of
sums_differ place x y d e =
    let size = length x in
    let n = words_in size in
    let other : word_sum_of y ≡ little_bytes 8 (mix_ended (state n y) size) =
    λ i. little_bytes 8 (mix_ended (state (words_in (sym d.long i)) y) (sym d.long i)) in
    let ended : mix_ended (state n x) size ≡ mix_ended (state n y) size =
    sym (number_of (state n x) size) ∙ ap (λ (l : List ℕ). little_number 8 (l ++ [])) (e ∙ other) ∙ number_of (state n y) size in
    let states = ended_same (state n x) (state n y) size (state_below n x) (state_below n y) d.short ended in
    d.differ (by_place place x y d n refl (cases_lt place n) states)

pub finds_changed_words : FindsChangedWords
finds_changed_words place x y d = sums_differ place x y d
