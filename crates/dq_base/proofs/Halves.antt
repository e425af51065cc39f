-- A text is split at its first space.
use Rattle.std.proofs.Common.{◌≡◌, ◌≢◌, ℕ, suc, ◌+◌, ◌<◌, ◌^◌, true, cond, eqb, ltb, inl, inr, List, [], ◌∷◌, ◌++◌, length, take, drop, Some, None, refl, ap, subst, ◌∙◌, arith, take_at, drop_at, length-append}
use Rattle.std.specs.List.{AllByRecursion, position_or_len}
use Rattle.std.specs.Char.{digit_value}
use Rattle.std.specs.Fmt.{decimal}
use Rattle.std.specs.Str.Parse.{AllDigits}
use Rattle.std.proofs.lemmas.Bool.{ltb-true, lt-ltb, ne_eqb}
use Rattle.std.proofs.lemmas.Bool.Decides.{eqb_tells}
use Rattle.std.proofs.lemmas.Fmt.{decimal_is_IsNumeral}
use Rattle.dq_base.specs.Texts.{halves}
use Rattle.dq_base.proofs.Choices.{passed, mapped, some_is}

-- where the first space stands, or the length
abbrev space : List ℕ → ℕ
space text = position_or_len (λ b. eqb b 32) text

-- no byte is a space
abbrev HasNoSpace : List ℕ → Type 0
HasNoSpace bytes = AllByRecursion (λ b. b ≢ 32) bytes

cut : List ℕ → Type 0
cut text = text ≡ take (space text) text ++ 32 ∷ drop 1 (drop (space text) text)

cut_next : (b : ℕ) (text : List ℕ) (n : ℕ) → text ≡ take n text ++ 32 ∷ drop 1 (drop n text) → b ∷ text ≡ take (1 + n) (b ∷ text) ++ 32 ∷ drop 1 (drop (1 + n) (b ∷ text))
cut_next b text n e =
    let one : 1 + n ≡ suc n = omega arith in
    rw one (ap (λ (t : List ℕ). b ∷ t) e)

cut_there : (text : List ℕ) → space text < length text → text ≡ take (space text) text ++ 32 ∷ drop 1 (drop (space text) text)
cut_there [] within = absurd (omega arith)
cut_there (b ∷ text) within =
    elim (eqb_tells b 32) [
      | inl p ↦ rw p.0 (ap (λ (c : ℕ). c ∷ text) p.1)
      | inr p ↦
          let later : space (b ∷ text) ≡ 1 + space text = rw p.0 refl in
          let shorter : space text < length text = omega (arith, later, within) in
          rw p.0 (cut_next b text (space text) (cut_there text shorter))
    ]

pub halves_cut : (text : List ℕ) (both : List ℕ × List ℕ) → halves text ≡ Some both → text ≡ both.0 ++ (32 ∷ both.1)
unfolding halves
halves_cut text both e =
    let made : ℕ → List ℕ × List ℕ = λ i. (take i text, drop 1 (drop i text)) in
    let a = mapped made (cond (ltb (space text) (length text)) (Some (space text)) None) both e in
    let b = passed (ltb (space text) (length text)) (Some (space text)) a.0 a.1 in
    let is : made (space text) ≡ both = ap made (some_is (space text) a.0 b.1) ∙ a.2 in
    subst (λ (h : List ℕ × List ℕ). text ≡ h.0 ++ 32 ∷ h.1) is (cut_there text (ltb-true (space text) (length text) b.0))

space_behind : (front rest : List ℕ) → HasNoSpace front → space (front ++ 32 ∷ rest) ≡ length front
space_behind [] rest none = refl
space_behind (b ∷ front) rest none = rw (ne_eqb b 32 none.0, space_behind front rest none.1) (omega arith)

pub halves_of : (front rest : List ℕ) → HasNoSpace front → halves (front ++ 32 ∷ rest) ≡ Some (front, rest)
unfolding halves
halves_of front rest none =
    let within : ltb (length front) (length (front ++ 32 ∷ rest)) ≡ true = lt-ltb (length front) (length (front ++ 32 ∷ rest)) (omega (arith, length-append front (32 ∷ rest))) in
    rw (space_behind front rest none, within, take_at front (32 ∷ rest) (length front) refl, drop_at front (32 ∷ rest) (length front) refl) refl

digits_no_space : (ds : List ℕ) → AllDigits 10 ds → HasNoSpace ds
digits_no_space [] h = tt
digits_no_space (d ∷ ds) h =
    (λ e. let small : digit_value 32 < 10 = subst (λ (c : ℕ). digit_value c < 10) e h.0 in absurd (omega arith), digits_no_space ds h.1)

-- what is written of a number has no space
pub decimal_no_space : (n : ℕ) → n < 2 ^ 64 → HasNoSpace (decimal n)
decimal_no_space n small = digits_no_space (decimal n) (decimal_is_IsNumeral n (omega arith)).0.1
