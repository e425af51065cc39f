-- Decimal words and the numbers that they are.
use Rattle.std.proofs.Common.{◌≡◌, ℕ, zero, suc, ◌^◌, ◌<◌, ◌≤◌, Bool, true, false, cond, ◌&&◌, ltb, List, length, get_or, Some, None, Result, Ok, Err, refl, sym, ap, subst, ◌∙◌, arith}
use Rattle.std.specs.Prelude.{bytes_eq}
use Rattle.std.specs.Fmt.{decimal}
use Rattle.std.specs.Str.{IsUtf8}
use Rattle.std.specs.Str.Parse.{digits_value, AllDigits, IsNumeral, without_leading_plus, ParsesUnsigned}
use Rattle.std.specs.Result.{result_ok}
use Rattle.std.proofs.lemmas.Bool.{ltb-true, lt-ltb, and_parts}
use Rattle.std.proofs.lemmas.Slice.Eq.{bytes_eq-Decides}
use Rattle.std.proofs.lemmas.Str.{IsUtf8-from_ascii}
use Rattle.std.proofs.lemmas.Str.Parse.{numerals_by_value, tells_digits, without_leading_plus_none, digit_at, IsNumeralModel}
use Rattle.std.proofs.lemmas.Fmt.{decimal-digits_value, decimal_is_IsNumeral, first_decimal, decimal_digit, IsAscii-decimal}
use Rattle.dq_base.proofs.Choices.{some_is, passed}
use Rattle.dq_base.specs.Decimal.{IsPlain, IsNumber, number_below}

own : IsNumeralModel (AllDigits 10) (digits_value 10)
own = numerals_by_value (AllDigits 10) tells_digits

refused : {A : Type 0} (a b : Bool) (x y : A) → ((a ≡ true) → (b ≡ true) → ⊥) → cond (a && b) x y ≡ y
refused true true x y never = absurd (never refl refl)
refused true false x y never = refl
refused false b x y never = refl

accepted : {A : Type 0} (a b : Bool) (x y : A) → a ≡ true → b ≡ true → cond (a && b) x y ≡ x
accepted a b x y p q = rw (p, q) refl

-- a word that is no number is read as none
pub number_none : (limit : ℕ) (word : List ℕ) → ((n : ℕ) → IsNumber limit word n → ⊥) → number_below limit word ≡ None
unfolding number_below
number_none limit word never =
    let v = digits_value 10 word in
    refused (bytes_eq (decimal v) word) (ltb v limit) (Some v) None
    (λ same small. never v (record { small = ltb-true v limit small; written = sym ((bytes_eq-Decides (decimal v) word).0 same) }))

-- a word that is a number is read as it
pub number_some : (limit : ℕ) (word : List ℕ) (n : ℕ) → limit ≤ 2 ^ 64 → IsNumber limit word n → number_below limit word ≡ Some n
unfolding number_below
number_some limit word n most is =
    let small = is.small in
    let wide : n < 2 ^ 64 = omega arith in
    let value : digits_value 10 word ≡ n = ap (digits_value 10) is.written ∙ (decimal_is_IsNumeral n wide).1 in
    rw value (accepted (bytes_eq (decimal n) word) (ltb n limit) (Some n) None ((bytes_eq-Decides (decimal n) word).1 (sym is.written)) (lt-ltb n limit is.small))

-- a word that is read as a number is it
pub number_is : (limit : ℕ) (word : List ℕ) (n : ℕ) → number_below limit word ≡ Some n → IsNumber limit word n
unfolding number_below
number_is limit word n e =
    let v = digits_value 10 word in
    let a = passed (bytes_eq (decimal v) word && ltb v limit) (Some v) n e in
    let both = and_parts (bytes_eq (decimal v) word) (ltb v limit) a.0 in
    subst (IsNumber limit word) (some_is v n a.1) (record { small = ltb-true v limit both.1; written = sym ((bytes_eq-Decides (decimal v) word).0 both.0) })

-- what is written of a number is read as it
pub number_again : (limit n : ℕ) → limit ≤ 2 ^ 64 → n < limit → number_below limit (decimal n) ≡ Some n
number_again limit n most small = number_some limit (decimal n) n most (record { small = small; written = refl })

-- the first byte of what is written of a number
plain_digits : (ds : List ℕ) → IsNumeral 10 ds → (get_or ds 0 0 ≡ 48 → length ds ≡ 1) → IsPlain ds
plain_digits ds h tight =
    let digit = digit_at ds 0 h.1 h.0 in
    record { some = h.0; unsigned = λ e. omega (arith, digit.0); tight = tight }

written_plain : (n : ℕ) → n < 2 ^ 64 → IsPlain (decimal n)
written_plain zero wide = plain_digits (decimal 0) (decimal_is_IsNumeral 0 wide).0 (λ e. ap length (decimal_digit 0 (omega arith)))
written_plain (suc n) wide =
    plain_digits (decimal (suc n)) (decimal_is_IsNumeral (suc n) wide).0
    (λ e. absurd (let first : 48 < get_or (decimal (suc n)) 0 0 = first_decimal (suc n) (omega arith) wide in omega arith))

widened : (limit n : ℕ) → limit ≤ 2 ^ 64 → n < limit → n < 2 ^ 64
widened limit n most small = omega arith

-- a word that isn't plain is no number
pub number_plain : (limit : ℕ) (word : List ℕ) → limit ≤ 2 ^ 64 → (IsPlain word → ⊥) → number_below limit word ≡ None
number_plain limit word most never = number_none limit word (λ n is. never (subst IsPlain (sym is.written) (written_plain n (widened limit n most is.small))))

-- nor is one that isn't in UTF-8
pub number_text : (limit : ℕ) (word : List ℕ) → limit ≤ 2 ^ 64 → (IsUtf8 word → ⊥) → number_below limit word ≡ None
number_text limit word most never =
    number_none limit word (λ n is. never (subst IsUtf8 (sym is.written) (IsUtf8-from_ascii (decimal n) (IsAscii-decimal n (widened limit n most is.small)))))

-- what `parse` gives of a plain word
pub number_parsed : {E : Type 0} (bits : ℕ) (word : List ℕ) (r : Result ℕ E) → 2 ^ bits ≤ 2 ^ 64 → IsPlain word → ParsesUnsigned bits 10 word r → number_below (2 ^ bits) word ≡ result_ok r
number_parsed bits word (Ok n) most plain p =
    let same : without_leading_plus word ≡ word = without_leading_plus_none word plain.unsigned in
    let read = rw same at p in
    let small : n < 2 ^ bits = omega (arith, read.0.1, read.1) in
    let wide : n < 2 ^ 64 = widened (2 ^ bits) n most small in
    number_some (2 ^ bits) word n most (record {
      small = small;
      written = sym (decimal-digits_value own word read.0.0.1 read.0.0.0 plain.tight (widened (2 ^ bits) (digits_value 10 word) most read.0.1)) ∙ ap decimal (sym read.1);
    })
number_parsed bits word (Err e) most plain p =
    let same : without_leading_plus word ≡ word = without_leading_plus_none word plain.unsigned in
    let read = rw same at p in
    number_none (2 ^ bits) word (λ n is.
    let numeral = decimal_is_IsNumeral n (widened (2 ^ bits) n most is.small) in
    let P : List ℕ → Type 0 = λ w. IsNumeral 10 w × (digits_value 10 w < 2 ^ bits) in
    read (subst P (sym is.written) (numeral.0, subst (λ (v : ℕ). v < 2 ^ bits) (sym numeral.1) is.small)))
