-- A set that may be split gives commands whose numbers are in range, and the loop that cuts it.
use Rattle.std.proofs.Common.{◌≡◌, ℕ, zero, suc, ◌+◌, ◌-◌, ◌<◌, ◌≤◌, ◌^◌, Bool, true, false, cond, ◌&&◌, leb, List, [], ◌∷◌, ◌++◌, length, take, drop, Option, Some, None, Result, Ok, Err, refl, sym, ap, subst, ◌∙◌, append_assoc, arith}
use Rattle.std.specs.Prelude.{IfOk}
use Rattle.std.specs.List.{All, AllByRecursion}
use Rattle.std.proofs.lemmas.Bool.{leb-true, leb-false, eq-eqb}
use Rattle.std.proofs.lemmas.List.{length-take-le, length-drop, take-append-le, drop-append-le, take_at, length_push}
use Rattle.std.proofs.lemmas.List.Elements.{recursion_from_All, All-take}
use Rattle.dq_base.specs.declared.pages.NumberedPage.{NumberedPage}
use Rattle.dq_base.specs.declared.pages.PageSet.{PageSet}
use Rattle.dq_base.specs.declared.page_fault.PageFault.{PageFault}
use Rattle.dq_base.specs.declared.page_fault.PageFault.TheVariants.{NoSizes, Order}
use Rattle.dq_base.specs.Applying.{is_sizes, stated_main, stated_side, longest_file, order_fault, length_fault, earlier, fault_before, page_fault, last_page}
use Rattle.dq_base.proofs.PageFaults.{last_page-push}
use Rattle.log_commands.specs.declared.command.Command.{Command}
use Rattle.log_commands.specs.declared.command.Command.TheVariants.{Frames}
use Rattle.log_commands.specs.Numbers.{numbers_ascend, highest_number, stated_count, pages_before_last, ends_with, frames_fit, numbers_fit}
use Rattle.log_commands.specs.Splitting.{count_stated, split_from, before_last, split, ends_in_sizes, can_split}
use Rattle.log_commands.proofs.ItemFacts.{both_true}
use Rattle.log_commands.proofs.InOtherWords.{Steps, steps_of, test_of, has_last}
use Rattle.log_commands.proofs.Ranges.{frames_fit-push}

-- ---- the page count

pub small_count : (p : NumberedPage) → is_sizes p ≡ true → stated_count p.page < 2 ^ 32
unfolding is_sizes
small_count p e =
    let a = both_true _ (leb (stated_side p.page) longest_file) e in
    let b = both_true _ (leb (stated_main p.page) longest_file) a.0 in
    let main : stated_main p.page ≤ longest_file = leb-true (stated_main p.page) longest_file b.1 in
    let side : stated_side p.page ≤ longest_file = leb-true (stated_side p.page) longest_file a.1 in
    omega (arith, main, side)

-- ---- the numbers of pages that ascend

steps_take : (least n : ℕ) (ps : List NumberedPage) → Steps least ps → Steps least (take n ps)
steps_take least zero ps s = tt
steps_take least (suc n) [] s = tt
steps_take least (suc n) (p ∷ ps) s = (s.0, s.1, s.2, steps_take (p.number + 1) n ps s.3)

-- the numbers ascend from some number on
record Ascends (ps : List NumberedPage) : Type 0 where
  least : ℕ
  steps : Steps least ps

steps_drop : (least n : ℕ) (ps : List NumberedPage) → Steps least ps → Ascends (drop n ps)
steps_drop least zero ps s = record { least = least; steps = s }
steps_drop least (suc n) [] s = record { least = least; steps = tt }
steps_drop least (suc n) (p ∷ ps) s = steps_drop (p.number + 1) n ps s.3

from_zero : (ps : List NumberedPage) → Ascends ps → numbers_ascend 0 ps ≡ true
from_zero [] a = test_of 0 [] tt
from_zero (p ∷ ps) a = test_of 0 (p ∷ ps) (omega arith, a.steps.1, a.steps.2, a.steps.3)

-- ---- pages that may be split, after some that were

-- pages that end with a sizes page, before which the numbers ascend
record Fits (ps : List NumberedPage) : Type 0 where
  front : List NumberedPage
  last : NumberedPage
  parts : ps ≡ front ++ last ∷ []
  sizes : is_sizes last ≡ true
  ascends : Ascends front

last_fits : (name : List ℕ) (tx : ℕ) (ps : List NumberedPage) → Fits ps → length ps ≤ 64 → numbers_fit (Frames name tx (count_stated (last_page ps)) true ps) ≡ true
unfolding ends_with
last_fits name tx ps f few =
    let last : last_page ps ≡ Some f.last = ap last_page f.parts ∙ last_page-push f.front f.last in
    let count : count_stated (last_page ps) ≡ stated_count f.last.page = ap count_stated last ∙ ap (λ (b : Bool). cond b (stated_count f.last.page) 0) f.sizes in
    let ascend : numbers_ascend 0 f.front ≡ true = from_zero f.front f.ascends in
    frames_fit-push (count_stated (last_page ps)) true ps f.front f.last f.parts few ∙ rw (f.sizes, eq-eqb (count_stated (last_page ps)) (stated_count f.last.page) count, ascend) refl

piece_fits : (name : List ℕ) (tx : ℕ) (ps : List NumberedPage) → Fits ps → 64 < length ps → numbers_fit (Frames name tx 0 false (take 64 ps)) ≡ true
unfolding frames_fit
piece_fits name tx ps f many =
    let size : length (take 64 ps) ≡ 64 = length-take-le 64 ps (omega (arith, many)) in
    let long : 64 ≤ length f.front = omega (arith, many, ap length f.parts, length_push f.front f.last) in
    let in_front : take 64 ps ≡ take 64 f.front = ap (take 64) f.parts ∙ take-append-le 64 f.front (f.last ∷ []) long in
    let ascend : numbers_ascend 0 (take 64 ps) ≡ true =
    ap (numbers_ascend 0) in_front ∙ from_zero (take 64 f.front) (record { least = f.ascends.least; steps = steps_take f.ascends.least 64 f.front f.ascends.steps }) in
    rw (size, ascend) refl

rest_fits : (ps : List NumberedPage) → Fits ps → 64 < length ps → Fits (drop 64 ps)
rest_fits ps f many =
    let long : 64 ≤ length f.front = omega (arith, many, ap length f.parts, length_push f.front f.last) in
    record {
      front = drop 64 f.front;
      last = f.last;
      parts = ap (drop 64) f.parts ∙ drop-append-le 64 f.front (f.last ∷ []) long;
      sizes = f.sizes;
      ascends = steps_drop f.ascends.least 64 f.front f.ascends.steps;
    }

abbrev AllFit : List Command → Type 0
AllFit commands = AllByRecursion (λ command. numbers_fit command ≡ true) commands

split_from_fits : (more : ℕ) (name : List ℕ) (tx : ℕ) (ps : List NumberedPage) → Fits ps → before_last ps ≡ more → AllFit (split_from more name tx ps)
unfolding split_from
split_from_fits zero name tx ps f e = (last_fits name tx ps f (omega (arith, e)), tt)
split_from_fits (suc more) name tx ps f e =
    let many : 64 < length ps = omega (arith, e) in
    let fewer : before_last (drop 64 ps) ≡ more = omega (arith, e, length-drop 64 ps) in
    (piece_fits name tx ps f many, split_from_fits more name tx (drop 64 ps) (rest_fits ps f many) fewer)

before_push : (front : List NumberedPage) (last : NumberedPage) → pages_before_last (front ++ last ∷ []) ≡ front
before_push front last = take_at front (last ∷ []) (length (front ++ last ∷ []) - 1) (omega (arith, length_push front last))

-- the test of pages that end in a last one
can_split-push : (front : List NumberedPage) (last : NumberedPage) → can_split (front ++ last ∷ []) ≡ (is_sizes last && numbers_ascend 2 front)
can_split-push front last =
    ap (λ (o : Option NumberedPage). ends_in_sizes o && numbers_ascend 2 (pages_before_last (front ++ last ∷ []))) (last_page-push front last)
    ∙ ap (λ (ps : List NumberedPage). is_sizes last && numbers_ascend 2 ps) (before_push front last)

pub can_split_of : (pages front : List NumberedPage) (last : NumberedPage) → pages ≡ front ++ last ∷ [] → can_split pages ≡ (is_sizes last && numbers_ascend 2 front)
can_split_of pages front last e = ap can_split e ∙ can_split-push front last

some_pages : (ps : List NumberedPage) → can_split ps ≡ true → 1 ≤ length ps
some_pages [] can = absurd cc
some_pages (p ∷ ps) can = omega arith

of_set : (ps : List NumberedPage) → can_split ps ≡ true → Fits ps
of_set ps can =
    let h = has_last ps (some_pages ps can) in
    let both = both_true (is_sizes h.last) (numbers_ascend 2 h.front) (sym (ap can_split h.parts ∙ can_split-push h.front h.last) ∙ can) in
    record { front = h.front; last = h.last; parts = h.parts; sizes = both.0; ascends = record { least = 2; steps = steps_of 2 h.front both.1 } }

-- ---- sets that can be applied

none_or_order : (low : Bool) (n : ℕ) (rest : Option PageFault) → cond low (Some (Order n)) rest ≡ None → (low ≡ false) × (rest ≡ None)
none_or_order true n rest e = absurd cc
none_or_order false n rest e = (refl, e)

steps_of_order : (before : ℕ) (ps : List NumberedPage) → 1 ≤ before → order_fault before ps ≡ None → AllByRecursion (λ p. p.number ≤ highest_number) ps → Steps (before + 1) ps
unfolding order_fault
steps_of_order before [] from e low = tt
steps_of_order before (p ∷ ps) from e low =
    let a = none_or_order (leb p.number before) p.number (order_fault p.number ps) e in
    let above : before < p.number = leb-false p.number before a.0 in
    (omega (arith, above), omega (arith, above, from), low.0, steps_of_order p.number ps (omega (arith, above)) a.1 low.1)

-- a list without a fault ends in a sizes page, and its numbers are in order
no_fault : (last : NumberedPage) (front : List NumberedPage) → fault_before (Some last) front ≡ None → (is_sizes last ≡ true) × (order_fault 1 front ≡ None)
unfolding fault_before
no_fault last front e = by (is_sizes last) (order_fault 1 front) refl refl e
  where
    by : (b : Bool) (o : Option PageFault) → is_sizes last ≡ b → order_fault 1 front ≡ o
        → cond b (earlier o (length_fault (stated_main last.page) (stated_side last.page) front)) (Some NoSizes) ≡ None → (is_sizes last ≡ true) × (order_fault 1 front ≡ None)
    by true None sizes order e = (sizes, order)
    by true (Some fault) sizes order e = absurd cc
    by false o sizes order e = absurd cc

some_of_fault : (qs : List NumberedPage) → page_fault qs ≡ None → 1 ≤ length qs
unfolding fault_before
some_of_fault [] e = absurd cc
some_of_fault (q ∷ qs) e = omega arith

pub applied_can_split : (ps : List NumberedPage) → page_fault ps ≡ None → All (λ p. p.number ≤ 4294967295) ps → can_split ps ≡ true
applied_can_split ps e low =
    let h = has_last ps (some_of_fault ps e) in
    let fault : page_fault ps ≡ fault_before (Some h.last) h.front =
    ap page_fault h.parts ∙ ap (λ (o : Option NumberedPage). fault_before o (pages_before_last (h.front ++ h.last ∷ []))) (last_page-push h.front h.last) ∙ ap (fault_before (Some h.last)) (before_push h.front h.last) in
    let sound = no_fault h.last h.front (sym fault ∙ e) in
    let in_front : All (λ p. p.number ≤ highest_number) h.front = subst (All (λ p. p.number ≤ highest_number)) (ap pages_before_last h.parts ∙ before_push h.front h.last) (All-take (λ p. p.number ≤ highest_number) (length ps - 1) ps low) in
    let steps = steps_of_order 1 h.front (omega arith) sound.1 (recursion_from_All (λ p. p.number ≤ highest_number) h.front in_front) in
    ap can_split h.parts ∙ can_split-push h.front h.last ∙ rw (sound.0, test_of 2 h.front steps) refl

pub split_fits : (name : List ℕ) (set : PageSet) → can_split set.pages ≡ true → AllFit (split name set)
split_fits name set can = split_from_fits (before_last set.pages) name set.tx set.pages (of_set set.pages can) refl

pub all_fit : {V F : Type 0} (items : V → List Command) (name : List ℕ) (set : PageSet) (result : Result V F) → can_split set.pages ≡ true → IfOk result (λ made. items made ≡ split name set) → IfOk result (λ made. AllFit (items made))
all_fit items name set (Ok made) can e = subst AllFit (sym e) (split_fits name set can)
all_fit items name set (Err fault) can e = tt

-- ---- the loop

pub split_more : (made : List Command) (name : List ℕ) (tx : ℕ) (rest : List NumberedPage) (total : List Command) → 64 < length rest
    → made ++ split_from (before_last rest) name tx rest ≡ total → (made ++ Frames name tx 0 false (take 64 rest) ∷ []) ++ split_from (before_last (drop 64 rest)) name tx (drop 64 rest) ≡ total
unfolding split_from
split_more made name tx rest total many so_far =
    let one : before_last rest ≡ suc (before_last (drop 64 rest)) = omega (arith, many, length-drop 64 rest) in
    let later = split_from (before_last (drop 64 rest)) name tx (drop 64 rest) in
    append_assoc made (Frames name tx 0 false (take 64 rest) ∷ []) later
    ∙ ap (λ (n : ℕ). made ++ split_from n name tx rest) (sym one) ∙ so_far

pub split_last : (made : List Command) (name : List ℕ) (tx : ℕ) (rest : List NumberedPage) (total : List Command) → length rest ≤ 64
    → made ++ split_from (before_last rest) name tx rest ≡ total → made ++ Frames name tx (count_stated (last_page rest)) true rest ∷ [] ≡ total
unfolding split_from
split_last made name tx rest total few so_far =
    let none : before_last rest ≡ 0 = omega (arith, few) in
    ap (λ (n : ℕ). made ++ split_from n name tx rest) (sym none) ∙ so_far
