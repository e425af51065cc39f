-- The test of a command's numbers says what their range is.
use Rattle.std.proofs.Common.{◌≡◌, ℕ, suc, ◌+◌, ◌<◌, ◌≤◌, Bool, true, false, not, ◌&&◌, eqb, leb, List, [], ◌∷◌, ◌++◌, length, Some, refl, sym, ap, subst, ◌∙◌, arith}
use Rattle.std.specs.List.{All, AllByRecursion, AllPairs}
use Rattle.std.proofs.lemmas.Bool.{leb-true, le-leb, eqb-true, eqb-false, ne_eqb, eq-eqb}
use Rattle.std.proofs.lemmas.List.Elements.{All-from_recursion, recursion_from_All}
use Rattle.std.proofs.lemmas.List.Kept.{AllPairs-cons}
use Rattle.dq_base.specs.declared.pages.NumberedPage.{NumberedPage}
use Rattle.dq_base.specs.Applying.{is_sizes, stated_main, stated_side, longest_file}
use Rattle.log_commands.specs.declared.command.Command.{Command}
use Rattle.log_commands.specs.declared.command.Command.TheVariants.{OpenDb, Frames, Undo, Checkpoint}
use Rattle.log_commands.specs.Numbers.{numbers_ascend, highest_number, most_pages, stated_count, ends_with, frames_fit, numbers_fit, AreLow, HasLowNumbers}
use Rattle.log_commands.specs.InRange.{Ascend, Ends, GoesOn, EndsOrGoesOn, AreInRange}
use Rattle.log_commands.proofs.ItemFacts.{both_true}
use Rattle.log_commands.proofs.Ranges.{frames_fit-push}

-- what the test looks at, number by number
abbrev pub Steps : ℕ → List NumberedPage → Type 0
Steps least [] = Unit {0}
Steps least (p ∷ ps) = (least ≤ p.number) × ¬ (p.number ≡ 1) × (p.number ≤ highest_number) × Steps (p.number + 1) ps

not_false : (b : Bool) → not b ≡ true → b ≡ false
not_false true e = absurd cc
not_false false e = refl

pub steps_of : (least : ℕ) (ps : List NumberedPage) → numbers_ascend least ps ≡ true → Steps least ps
unfolding numbers_ascend
steps_of least [] e = tt
steps_of least (p ∷ ps) e =
    let a = both_true (leb least p.number && not (eqb p.number 1) && leb p.number highest_number) (numbers_ascend (p.number + 1) ps) e in
    let b = both_true (leb least p.number && not (eqb p.number 1)) (leb p.number highest_number) a.0 in
    let c = both_true (leb least p.number) (not (eqb p.number 1)) b.0 in
    (leb-true least p.number c.0, eqb-false p.number 1 (not_false (eqb p.number 1) c.1), leb-true p.number highest_number b.1, steps_of (p.number + 1) ps a.1)

pub test_of : (least : ℕ) (ps : List NumberedPage) → Steps least ps → numbers_ascend least ps ≡ true
unfolding numbers_ascend
test_of least [] s = refl
test_of least (p ∷ ps) s =
    rw (le-leb least p.number s.0, ne_eqb p.number 1 s.1, le-leb p.number highest_number s.2, test_of (p.number + 1) ps s.3) refl

-- ---- from the steps

above : (n least : ℕ) (ps : List NumberedPage) → n < least → Steps least ps → AllByRecursion (λ q. n < q.number) ps
above n least [] lt s = tt
above n least (p ∷ ps) lt s = (omega (arith, lt, s.0), above n (p.number + 1) ps (omega (arith, lt, s.0)) s.3)

all_low : (least : ℕ) (ps : List NumberedPage) → Steps least ps → AllByRecursion (λ q. q.number ≤ highest_number) ps
all_low least [] s = tt
all_low least (p ∷ ps) s = (s.2, all_low (p.number + 1) ps s.3)

all_not_one : (least : ℕ) (ps : List NumberedPage) → Steps least ps → AllByRecursion (λ q. ¬ (q.number ≡ 1)) ps
all_not_one least [] s = tt
all_not_one least (p ∷ ps) s = (s.1, all_not_one (p.number + 1) ps s.3)

abbrev IsBelow : NumberedPage → NumberedPage → Type 0
IsBelow p q = p.number < q.number

no_pairs : AllPairs IsBelow []
no_pairs i j d lt len = absurd (omega (arith, len))

all_pairs : (least : ℕ) (ps : List NumberedPage) → Steps least ps → AllPairs IsBelow ps
all_pairs least [] s = no_pairs
all_pairs least (p ∷ ps) s =
    AllPairs-cons IsBelow p ps (All-from_recursion (IsBelow p) ps (above p.number (p.number + 1) ps (omega arith) s.3)) (all_pairs (p.number + 1) ps s.3)

ascend_of : (ps : List NumberedPage) → numbers_ascend 0 ps ≡ true → Ascend ps
ascend_of ps e =
    let s = steps_of 0 ps e in
    record {
      ascending = all_pairs 0 ps s;
      low = All-from_recursion (λ q. q.number ≤ highest_number) ps (all_low 0 ps s);
      not_one = All-from_recursion (λ q. ¬ (q.number ≡ 1)) ps (all_not_one 0 ps s);
    }

-- ---- to the steps

later_pairs : (p : NumberedPage) (ps : List NumberedPage) → AllPairs IsBelow (p ∷ ps) → AllPairs IsBelow ps
later_pairs p ps h i j d lt len = h (suc i) (suc j) d (omega (arith, lt)) (omega (arith, len))

first_pairs : (p : NumberedPage) (ps : List NumberedPage) → AllPairs IsBelow (p ∷ ps) → All (IsBelow p) ps
first_pairs p ps h = λ i d len. h 0 (suc i) d (omega arith) (omega (arith, len))

next_least : (n : ℕ) (ps : List NumberedPage) → AllByRecursion (λ q. n < q.number) ps → AllByRecursion (λ q. n + 1 ≤ q.number) ps
next_least n [] h = tt
next_least n (p ∷ ps) h = (omega (arith, h.0), next_least n ps h.1)

steps_from : (least : ℕ) (ps : List NumberedPage) → AllByRecursion (λ q. least ≤ q.number) ps → AllPairs IsBelow ps → AllByRecursion (λ q. q.number ≤ highest_number) ps → AllByRecursion (λ q. ¬ (q.number ≡ 1)) ps → Steps least ps
steps_from least [] from pairs low not_one = tt
steps_from least (p ∷ ps) from pairs low not_one =
    let later = next_least p.number ps (recursion_from_All (IsBelow p) ps (first_pairs p ps pairs)) in
    (from.0, not_one.0, low.0, steps_from (p.number + 1) ps later (later_pairs p ps pairs) low.1 not_one.1)

from_zero : (ps : List NumberedPage) → AllByRecursion (λ q. 0 ≤ q.number) ps
from_zero [] = tt
from_zero (p ∷ ps) = (omega arith, from_zero ps)

ascend_test : (ps : List NumberedPage) → Ascend ps → numbers_ascend 0 ps ≡ true
ascend_test ps a =
    test_of 0 ps (steps_from 0 ps (from_zero ps) a.ascending (recursion_from_All (λ q. q.number ≤ highest_number) ps a.low) (recursion_from_All (λ q. ¬ (q.number ≡ 1)) ps a.not_one))

-- ---- the whole

-- a list that isn't empty has a last page
pub record HasLast (ps : List NumberedPage) : Type 0 where
  pub front : List NumberedPage
  pub last : NumberedPage
  pub parts : ps ≡ front ++ last ∷ []

pub has_last : (ps : List NumberedPage) → 1 ≤ length ps → HasLast ps
has_last [] some = absurd (omega (arith, some))
has_last (p ∷ []) some = record { front = []; last = p; parts = refl }
has_last (p ∷ q ∷ ps) some =
    let h = has_last (q ∷ ps) (omega arith) in
    record { front = p ∷ h.front; last = h.last; parts = ap (λ (x : List NumberedPage). p ∷ x) h.parts }

ends_of : (truncate : ℕ) (pages : List NumberedPage) (h : HasLast pages) → (ends_with truncate (Some h.last) && numbers_ascend 0 h.front) ≡ true → Ends truncate pages
unfolding ends_with
ends_of truncate pages h e =
    let a = both_true (is_sizes h.last && eqb truncate (stated_count h.last.page)) (numbers_ascend 0 h.front) e in
    let b = both_true (is_sizes h.last) (eqb truncate (stated_count h.last.page)) a.0 in
    record { front = h.front; sizes = h.last; parts = h.parts; valid = b.0; count = eqb-true truncate (stated_count h.last.page) b.1; ascend = ascend_of h.front a.1 }

goes_on_of : (truncate : ℕ) (pages : List NumberedPage) → (eqb truncate 0 && numbers_ascend 0 pages) ≡ true → GoesOn truncate pages
goes_on_of truncate pages e =
    let a = both_true (eqb truncate 0) (numbers_ascend 0 pages) e in
    record { none = eqb-true truncate 0 a.0; ascend = ascend_of pages a.1 }

part_of : (truncate : ℕ) (commit : Bool) (pages : List NumberedPage) (h : HasLast pages) → frames_fit truncate commit pages ≡ true → length pages ≤ most_pages → EndsOrGoesOn truncate commit pages
part_of truncate true pages h e few = ends_of truncate pages h (sym (frames_fit-push truncate true pages h.front h.last h.parts few) ∙ e)
part_of truncate false pages h e few = goes_on_of truncate pages (sym (frames_fit-push truncate false pages h.front h.last h.parts few) ∙ e)

some_and_few : (truncate : ℕ) (commit : Bool) (pages : List NumberedPage) → frames_fit truncate commit pages ≡ true → (1 ≤ length pages) × (length pages ≤ most_pages)
unfolding frames_fit
some_and_few truncate commit pages e =
    let a = both_true (leb 1 (length pages) && leb (length pages) most_pages) _ e in
    let b = both_true (leb 1 (length pages)) (leb (length pages) most_pages) a.0 in
    (leb-true 1 (length pages) b.0, leb-true (length pages) most_pages b.1)

pub in_range_of : (truncate : ℕ) (commit : Bool) (pages : List NumberedPage) → frames_fit truncate commit pages ≡ true → AreInRange truncate commit pages
in_range_of truncate commit pages e =
    let size = some_and_few truncate commit pages e in
    record { some = size.0; few = size.1; part = part_of truncate commit pages (has_last pages size.0) e size.1 }

ends_test : (truncate : ℕ) (sizes : NumberedPage) → is_sizes sizes ≡ true → truncate ≡ stated_count sizes.page → ends_with truncate (Some sizes) ≡ true
unfolding ends_with
ends_test truncate sizes valid count = rw (valid, eq-eqb truncate (stated_count sizes.page) count) refl

part_test : (truncate : ℕ) (commit : Bool) (pages : List NumberedPage) → HasLast pages → length pages ≤ most_pages → EndsOrGoesOn truncate commit pages → frames_fit truncate commit pages ≡ true
part_test truncate true pages h few part =
    frames_fit-push truncate true pages part.front part.sizes part.parts few ∙ rw (ends_test truncate part.sizes part.valid part.count, ascend_test part.front part.ascend) refl
part_test truncate false pages h few part =
    frames_fit-push truncate false pages h.front h.last h.parts few ∙ rw (eq-eqb truncate 0 part.none, ascend_test pages part.ascend) refl

pub in_range_test : (truncate : ℕ) (commit : Bool) (pages : List NumberedPage) → AreInRange truncate commit pages → frames_fit truncate commit pages ≡ true
in_range_test truncate commit pages r = part_test truncate commit pages (has_last pages r.some) r.few r.part

-- ---- numbers that fit are low

sizes_number : (p : NumberedPage) → is_sizes p ≡ true → p.number ≡ 1
unfolding is_sizes
sizes_number p e =
    let a = both_true _ (leb (stated_side p.page) longest_file) e in
    let b = both_true _ (leb (stated_main p.page) longest_file) a.0 in
    let c = both_true (eqb p.number 1) _ b.0 in
    eqb-true p.number 1 c.0

low_behind : (front : List NumberedPage) (last : NumberedPage) → AreLow front → last.number ≤ highest_number → AreLow (front ++ last ∷ [])
low_behind [] last low le = (le, tt)
low_behind (p ∷ front) last low le = (low.0, low_behind front last low.1 le)

part_low : (truncate : ℕ) (commit : Bool) (pages : List NumberedPage) → EndsOrGoesOn truncate commit pages → AreLow pages
part_low truncate true pages part =
    let one : part.sizes.number ≤ highest_number = omega (arith, sizes_number part.sizes part.valid) in
    subst AreLow (sym part.parts) (low_behind part.front part.sizes (recursion_from_All (λ p. p.number ≤ highest_number) part.front part.ascend.low) one)
part_low truncate false pages part = recursion_from_All (λ p. p.number ≤ highest_number) pages part.ascend.low

pub fit_low : (command : Command) → numbers_fit command ≡ true → HasLowNumbers command
fit_low (OpenDb name) e = tt
fit_low (Frames name tx truncate commit pages) e = part_low truncate commit pages (in_range_of truncate commit pages e).part
fit_low (Undo tx) e = tt
fit_low (Checkpoint name) e = tt
