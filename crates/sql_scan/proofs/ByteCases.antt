-- The bytes of each kind, one by one.
use Rattle.std.proofs.Common.{◌≡◌, ℕ, ◌<◌, Bool, true, false, eqb, leb, ◌||◌, inl, inr, not, sym, ap, subst, ◌∙◌, arith}
use Rattle.std.proofs.lemmas.Bool.{cases_Bool, or_cases, or_parts, eqb-true, leb-false}
use Rattle.sql_scan.specs.Bytes.{is_space, is_digit, is_letter, is_word_start, is_word_part, is_sigil, is_quote, is_in_line}

either : (Q : Type 0) (x y : Bool) → (x ≡ true → Q) → (y ≡ true → Q) → (x || y) ≡ true → Q
either Q x y p q e = elim (or_cases x y e) [ inl l ↦ p l | inr r ↦ q r ]

pick : (P : ℕ → Type 0) (b k : ℕ) → P k → eqb b k ≡ true → P b
pick P b k h e = subst P (sym (eqb-true b k e)) h

pub space_cases : (P : ℕ → Type 0) (b : ℕ) → is_space b ≡ true → P 32 → P 10 → P 9 → P 13 → P 12 → P b
unfolding is_space
space_cases P b e space lf tab cr ff =
    either (P b) (eqb b 32 || eqb b 10 || eqb b 9 || eqb b 13) (eqb b 12)
    (either (P b) (eqb b 32 || eqb b 10 || eqb b 9) (eqb b 13)
    (either (P b) (eqb b 32 || eqb b 10) (eqb b 9) (either (P b) (eqb b 32) (eqb b 10) (pick P b 32 space) (pick P b 10 lf)) (pick P b 9 tab))
    (pick P b 13 cr))
    (pick P b 12 ff) e

pub quote_cases : (P : ℕ → Type 0) (b : ℕ) → is_quote b ≡ true → P 39 → P 34 → P 96 → P b
unfolding is_quote
quote_cases P b e single double back =
    either (P b) (eqb b 39 || eqb b 34) (eqb b 96) (either (P b) (eqb b 39) (eqb b 34) (pick P b 39 single) (pick P b 34 double)) (pick P b 96 back) e

pub sigil_cases : (P : ℕ → Type 0) (b : ℕ) → is_sigil b ≡ true → P 58 → P 64 → P 36 → P b
unfolding is_sigil
sigil_cases P b e colon at dollar =
    either (P b) (eqb b 58 || eqb b 64) (eqb b 36) (either (P b) (eqb b 58) (eqb b 64) (pick P b 58 colon) (pick P b 64 at)) (pick P b 36 dollar) e

-- a word begins with no space
pub word-no-space : (b : ℕ) → is_word_start b ≡ true → is_space b ≡ false
unfolding is_word_start is_letter is_digit
word-no-space b e = elim (cases_Bool (is_space b)) [
  | inl space ↦ absurd (space_cases (λ (c : ℕ). is_word_start c ≡ true → ⊥) b space (λ h. cc) (λ h. cc) (λ h. cc) (λ h. cc) (λ h. cc) e)
  | inr none ↦ none
]

-- what is no part of a word is ASCII
pub ends-word : (b : ℕ) → is_word_part b ≡ false → b < 128
unfolding is_word_part is_word_start
ends-word b e = leb-false 128 b (or_parts (is_letter b || is_digit b || eqb b 95) (leb 128 b) (or_parts (is_word_start b) (eqb b 36) e).0).1

pub ends-line : (b : ℕ) → is_in_line b ≡ false → b < 128
unfolding is_in_line
ends-line b e = elim (cases_Bool (eqb b 10)) [
  | inl lf ↦ let is : b ≡ 10 = eqb-true b 10 lf in omega arith
  | inr other ↦ absurd (let h : true ≡ false = sym (ap not other) ∙ e in cc)
]

-- what begins no word is ASCII
pub word-end : (b : ℕ) → is_word_start b ≡ false → b < 128
unfolding is_word_start
word-end b e = leb-false 128 b (or_parts (is_letter b || is_digit b || eqb b 95) (leb 128 b) e).1
