-- The steps of the loop over the numbers of pages.
use Rattle.std.proofs.Common.{◌≡◌, ℕ, ◌+◌, ◌<◌, ◌≤◌, Bool, true, false, not, ◌&&◌, eqb, leb, List, length, get_or, drop, refl, sym, ap, ◌∙◌}
use Rattle.std.proofs.lemmas.Bool.{and_left, and_right, ne_eqb, eq-eqb, le-leb, lt-leb}
use Rattle.std.proofs.lemmas.List.{at_drop_all}
use Rattle.dq_base.specs.declared.pages.NumberedPage.{NumberedPage}
use Rattle.log_commands.specs.Numbers.{numbers_ascend, highest_number}
use Rattle.log_commands.proofs.Loops.{next_page}

-- a number that is at least this one, not 1, and not above the highest
abbrev pub is_next : ℕ → ℕ → Bool
is_next least number = leb least number && not (eqb number 1) && leb number highest_number

pub is_next-low : (least number : ℕ) → number < least → is_next least number ≡ false
is_next-low least number low = and_left _ _ (and_left _ _ (lt-leb least number low))

pub is_next-one : (least number : ℕ) → number ≡ 1 → is_next least number ≡ false
is_next-one least number one = and_left _ _ (and_right (leb least number) _ (ap not (eq-eqb number 1 one)))

pub is_next-high : (least number : ℕ) → highest_number < number → is_next least number ≡ false
is_next-high least number high = and_right (leb least number && not (eqb number 1)) _ (lt-leb number highest_number high)

pub is_next-true : (least number : ℕ) → least ≤ number → ¬ (number ≡ 1) → number ≤ highest_number → is_next least number ≡ true
is_next-true least number low one high = rw (le-leb least number low, ne_eqb number 1 one, le-leb number highest_number high) refl

pub ascend_more : (least i : ℕ) (ps : List NumberedPage) (p : NumberedPage) (total : Bool) → i < length ps → p ≡ get_or ps i p → is_next least p.number ≡ true → numbers_ascend least (drop i ps) ≡ total
    → numbers_ascend (p.number + 1) (drop (i + 1) ps) ≡ total
unfolding numbers_ascend
ascend_more least i ps p total lt is next so_far =
    sym (next_page (numbers_ascend least) ps i p lt is ∙ ap (λ (b : Bool). b && numbers_ascend (p.number + 1) (drop (i + 1) ps)) next) ∙ so_far

pub ascend_refused : (least i : ℕ) (ps : List NumberedPage) (p : NumberedPage) (total : Bool) → i < length ps → p ≡ get_or ps i p → is_next least p.number ≡ false → numbers_ascend least (drop i ps) ≡ total → total ≡ false
unfolding numbers_ascend
ascend_refused least i ps p total lt is next so_far =
    sym so_far ∙ next_page (numbers_ascend least) ps i p lt is ∙ ap (λ (b : Bool). b && numbers_ascend (p.number + 1) (drop (i + 1) ps)) next

pub ascend_all : (least i : ℕ) (ps : List NumberedPage) (total : Bool) → length ps ≤ i → numbers_ascend least (drop i ps) ≡ total → total ≡ true
unfolding numbers_ascend
ascend_all least i ps total le so_far = sym so_far ∙ at_drop_all (numbers_ascend least) ps i le
