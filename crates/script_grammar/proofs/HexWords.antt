-- Hex digits are read exactly if they encode the bytes.
use Rattle.std.proofs.Common.{◌≡◌, ℕ, zero, suc, ◌+◌, ◌*◌, ◌/◌, ◌%◌, ◌<◌, Bool, true, false, eqb, ◌&&◌, ◌||◌, ◌⊎◌, inl, inr, List, [], ◌∷◌, length}
use Rattle.std.proofs.Common.{slice_index, Option, Some, None, Result, Ok, Err, refl, sym, ap, subst, ◌∙◌, arith}
use Rattle.std.specs.Result.{result_ok}
use Rattle.std.proofs.lemmas.Bool.{and_parts, cases_lt, eqb-true, ne_eqb}
use Rattle.hex.specs.Hex.{lower_digits, upper_digits, hex_digit_value, digit_or_error, value_at, pair_value, decode_pairs, decode_of, ◌>>=◌}
use Rattle.hex.specs.declared.error.FromHexError.{FromHexError}
use Rattle.hex.proofs.HexLemmas.{IsDigits-lower_digits, IsDigits-upper_digits, decode_of-ok, decode_of-even}
use Rattle.hex.proofs.Pairs.{cons_byte, decode_pairs-ok_pair}
use Rattle.script_grammar.specs.Events.{hex_bytes}
use Rattle.script_grammar.specs.Spelling.{IsHexDigit, AreHex}
use Rattle.dq_base.proofs.Choices.{some_is, not_passed}

-- ---- a digit

-- the test of one code, which computes
abbrev stands : ℕ → ℕ → Bool
stands c v = eqb (slice_index lower_digits v) c || eqb (slice_index upper_digits v) c

abbrev is_listed : ℕ → Option ℕ → Bool
is_listed c None = true
is_listed c (Some v) = stands c v

-- the test of the first n codes
abbrev all_listed : ℕ → Bool
all_listed zero = true
all_listed (suc n) = is_listed n (hex_digit_value n) && all_listed n

listed_at : (n c : ℕ) → all_listed n ≡ true → c < n → is_listed c (hex_digit_value c) ≡ true
listed_at zero c h lt = absurd (omega arith)
listed_at (suc n) c h lt =
    let parts = and_parts (is_listed n (hex_digit_value n)) (all_listed n) h in
    elim (cases_lt c n) [
      | inl below ↦ listed_at n c parts.1 below
      | inr top ↦
          let e : c ≡ n = omega arith in
          rw e parts.0
    ]

either : (a b : Bool) → (a || b) ≡ true → (a ≡ true) ⊎ (b ≡ true)
either true b e = inl refl
either false b e = inr e

stands_so : (c v : ℕ) → v < 16 → stands c v ≡ true → IsHexDigit c v
stands_so c v small h = (
  small,
  elim (either (eqb (slice_index lower_digits v) c) (eqb (slice_index upper_digits v) c) h) [
    | inl lower ↦ inl (sym (eqb-true (slice_index lower_digits v) c lower))
    | inr upper ↦ inr (sym (eqb-true (slice_index upper_digits v) c upper))
  ],
)

digit_range : (c v : ℕ) → hex_digit_value c ≡ Some v → (c < 103) × (v < 16)
digit_range c v h = (grind (arith), grind (arith))

digit_spelled : (c v : ℕ) → hex_digit_value c ≡ Some v → IsHexDigit c v
digit_spelled c v h =
    let range = digit_range c v h in
    let listed : is_listed c (hex_digit_value c) ≡ true = listed_at 103 c refl range.0 in
    stands_so c v range.1 (rw h at listed)

digit_read : (c v : ℕ) → IsHexDigit c v → hex_digit_value c ≡ Some v
digit_read c v (small, inl e) = ap hex_digit_value e ∙ IsDigits-lower_digits v small
digit_read c v (small, inr e) = ap hex_digit_value e ∙ IsDigits-upper_digits v small

-- ---- pairs of digits

bind_ok : {A B : Type 0} (r : Result A FromHexError) (f : A → Result B FromHexError) (y : B) → (r >>= f) ≡ Ok y → (x : A) × (r ≡ Ok x) × (f x ≡ Ok y)
bind_ok (Ok x) f y e = (x, refl, e)
bind_ok (Err d) f y e = absurd cc

ok_is : {A : Type 0} (x y : A) (r : Result A FromHexError) → r ≡ Ok x → r ≡ Ok y → x ≡ y
ok_is x y r d e = cc

value_is : (c i : ℕ) (o : Option ℕ) (v : ℕ) → digit_or_error c i o ≡ Ok v → o ≡ Some v
value_is c i (Some w) v e = ap Some (ok_is w v (Ok w) refl e)
value_is c i None v e = absurd cc

pub pairs_spelled : (i : ℕ) (digits bytes : List ℕ) → decode_pairs i digits ≡ Ok bytes → AreHex digits bytes
unfolding decode_pairs
pairs_spelled i [] [] e = tt
pairs_spelled i [] (byte ∷ bytes) e = absurd cc
pairs_spelled i (digit ∷ []) bytes e = absurd cc
pairs_spelled i (high ∷ low ∷ digits) bytes e =
    let p0 = bind_ok (pair_value high low i) _ bytes e in
    let p1 = bind_ok (value_at high i) _ p0.0 p0.1 in
    let p2 = bind_ok (value_at low (i + 1)) _ p0.0 p1.2 in
    let p3 = bind_ok (decode_pairs (i + 2) digits) _ bytes p0.2 in
    let h = value_is high i (hex_digit_value high) p1.0 p1.1 in
    let l = value_is low (i + 1) (hex_digit_value low) p2.0 p2.1 in
    let h_small = (digit_range high p1.0 h).1 in
    let l_small = (digit_range low p2.0 l).1 in
    let byte : p1.0 * 16 + p2.0 ≡ p0.0 = ok_is (p1.0 * 16 + p2.0) p0.0 (Ok (p1.0 * 16 + p2.0)) refl p2.2 in
    let all : p0.0 ∷ p3.0 ≡ bytes = ok_is (p0.0 ∷ p3.0) bytes (Ok (p0.0 ∷ p3.0)) refl p3.2 in
    let high_is : p1.0 ≡ p0.0 / 16 = omega arith in
    let low_is : p2.0 ≡ p0.0 % 16 = omega arith in
    subst (AreHex (high ∷ low ∷ digits)) all (
      subst (IsHexDigit high) high_is (digit_spelled high p1.0 h),
      subst (IsHexDigit low) low_is (digit_spelled low p2.0 l),
      pairs_spelled (i + 2) digits p3.0 p3.1,
    )

pub pairs_read : (i : ℕ) (digits bytes : List ℕ) → AreHex digits bytes → decode_pairs i digits ≡ Ok bytes
unfolding decode_pairs
pairs_read i [] [] h = refl
pairs_read i [] (byte ∷ bytes) h = absurd h
pairs_read i (digit ∷ []) [] h = absurd h
pairs_read i (digit ∷ []) (byte ∷ bytes) h = absurd h
pairs_read i (high ∷ low ∷ digits) [] h = absurd h
pairs_read i (high ∷ low ∷ digits) (byte ∷ bytes) h =
    let ha : value_at high i ≡ Ok (byte / 16) = ap (digit_or_error high i) (digit_read high (byte / 16) h.0) in
    let hb : value_at low (i + 1) ≡ Ok (byte % 16) = ap (digit_or_error low (i + 1)) (digit_read low (byte % 16) h.1) in
    let pair : pair_value high low i ≡ Ok (byte / 16 * 16 + byte % 16) = rw (ha, hb) refl in
    let whole : byte / 16 * 16 + byte % 16 ≡ byte = omega arith in
    decode_pairs-ok_pair i high low (byte / 16 * 16 + byte % 16) digits pair
    ∙ ap (cons_byte (byte / 16 * 16 + byte % 16)) (pairs_read (i + 2) digits bytes h.2)
    ∙ ap (λ (v : ℕ). Ok (v ∷ bytes)) whole

pub hex_length : (digits bytes : List ℕ) → AreHex digits bytes → length digits ≡ 2 * length bytes
hex_length [] [] h = refl
hex_length [] (byte ∷ bytes) h = absurd h
hex_length (digit ∷ []) [] h = absurd h
hex_length (digit ∷ []) (byte ∷ bytes) h = absurd h
hex_length (high ∷ low ∷ digits) [] h = absurd h
hex_length (high ∷ low ∷ digits) (byte ∷ bytes) h = let e = hex_length digits bytes h.2 in omega (arith, e)

-- ---- a word

found : (r : Result (List ℕ) FromHexError) (bytes : List ℕ) → result_ok r ≡ Some bytes → r ≡ Ok bytes
found (Ok x) bytes e = ap Ok (some_is x bytes e)
found (Err d) bytes e = absurd cc

some_bytes : (digits bytes : List ℕ) → eqb (length digits) 0 ≡ false → length digits ≡ 2 * length bytes → 0 < length bytes
some_bytes digits [] some twice = absurd (let none : eqb (length digits) 0 ≡ true = ap (λ n. eqb n 0) twice in let e : true ≡ false = sym none ∙ some in cc)
some_bytes digits (byte ∷ bytes) some twice = omega arith

pub hex_spelled : (digits bytes : List ℕ) → hex_bytes digits ≡ Some bytes → AreHex digits bytes × (0 < length bytes)
unfolding hex_bytes
hex_spelled digits bytes e =
    let a = not_passed (eqb (length digits) 0) (result_ok (decode_of digits)) bytes e in
    let read : decode_of digits ≡ Ok bytes = found (decode_of digits) bytes a.1 in
    let ok = decode_of-ok digits bytes read in
    let hex = pairs_spelled 0 digits bytes (sym (decode_of-even digits ok.0) ∙ read) in
    (hex, some_bytes digits bytes a.0 (hex_length digits bytes hex))

pub hex_read : (digits bytes : List ℕ) → AreHex digits bytes → 0 < length bytes → hex_bytes digits ≡ Some bytes
unfolding hex_bytes
hex_read digits bytes hex some =
    let twice = hex_length digits bytes hex in
    let even : length digits % 2 ≡ 0 = omega (arith, twice) in
    let read : decode_of digits ≡ Ok bytes = decode_of-even digits even ∙ pairs_read 0 digits bytes hex in
    let filled : eqb (length digits) 0 ≡ false = ne_eqb (length digits) 0 (λ e. omega (arith, twice)) in
    rw (filled, read) refl
