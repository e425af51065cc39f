-- Pages that can be applied have low numbers, and so they can be split.
use Rattle.std.proofs.Common.{◌≡◌, ℕ, ◌+◌, ◌-◌, ◌*◌, ◌/◌, ◌%◌, ◌<◌, ◌≤◌, Bool, true, false, cond, ◌&&◌, is_none, List, [], ◌∷◌, ◌++◌, length, take, drop, Option, Some, None, refl, sym, ap, subst, ◌∙◌, arith}
use Rattle.std.specs.Prelude.{◌==◌, nat_le}
use Rattle.std.specs.List.{AllByRecursion, list_all}
use Rattle.std.proofs.lemmas.Bool.{leb-false, leb-true, eqb-true}
use Rattle.std.proofs.lemmas.List.Elements.{All-from_recursion}
use Rattle.dq_base.specs.declared.pages.NumberedPage.{NumberedPage}
use Rattle.dq_base.specs.declared.page_fault.PageFault.{PageFault}
use Rattle.dq_base.specs.declared.page_fault.PageFault.TheVariants.{NoSizes, NotInLength}
use Rattle.dq_base.specs.Images.{page_start}
use Rattle.dq_base.proofs.PageFaults.{last_page-push}
use Rattle.dq_base.specs.Applying.{longest_file, stated_main, stated_side, is_sizes, order_fault, length_fault, earlier, fault_before, page_fault, last_page}
use Rattle.std.proofs.lemmas.List.{length_push, take_at}
use Rattle.log_commands.specs.Splitting.{can_split}
use Rattle.log_commands.proofs.InOtherWords.{has_last}
use Rattle.session_table.proofs.Releasing.{all_both}
use Rattle.log_commands.proofs.SplitFits.{applied_can_split}

abbrev IsLow : NumberedPage → Type 0
IsLow p = p.number ≤ 4294967295

low_start : (n len : ℕ) → len ≤ 67108864 → nat_le len (page_start n) ≡ false → n ≤ 4294967295
low_start n len short e =
    let below : page_start n < len = leb-false len (page_start n) e in
    let start : 4096 * (n / 2 - 1) < len = below in
    omega arith

none_or_length : (past : Bool) (n : ℕ) (rest : Option PageFault) → cond past (Some (NotInLength n)) rest ≡ None → (past ≡ false) × (rest ≡ None)
none_or_length true n rest e = absurd cc
none_or_length false n rest e = (refl, e)

of_parity : (even : Bool) (main side : ℕ) → main ≤ 67108864 → side ≤ 67108864 → cond even main side ≤ 67108864
of_parity true main side m s = m
of_parity false main side m s = s

lows : (main side : ℕ) (ps : List NumberedPage) → main ≤ 67108864 → side ≤ 67108864 → length_fault main side ps ≡ None → AllByRecursion IsLow ps
unfolding length_fault
lows main side [] m s e = tt
lows main side (p ∷ ps) m s e =
    let a = none_or_length (nat_le (cond (p.number % 2 == 0) main side) (page_start p.number)) p.number (length_fault main side ps) e in
    (low_start p.number (cond (p.number % 2 == 0) main side) (of_parity (p.number % 2 == 0) main side m s) a.0, lows main side ps m s a.1)

both_true : (a b : Bool) → (a && b) ≡ true → (a ≡ true) × (b ≡ true)
both_true true b e = (refl, e)
both_true false b e = absurd cc

record Stated (p : NumberedPage) : Type 0 where
  low : IsLow p
  main : stated_main p.page ≤ 67108864
  side : stated_side p.page ≤ 67108864

sizes_say : (p : NumberedPage) → is_sizes p ≡ true → Stated p
unfolding is_sizes
sizes_say p e =
    let a = both_true (((p.number == 1) && list_all (λ b. b == 0) (drop 16 p.page)) && nat_le (stated_main p.page) longest_file) (nat_le (stated_side p.page) longest_file) e in
    let b = both_true ((p.number == 1) && list_all (λ b. b == 0) (drop 16 p.page)) (nat_le (stated_main p.page) longest_file) a.0 in
    let c = both_true (p.number == 1) (list_all (λ b. b == 0) (drop 16 p.page)) b.0 in
    let one : p.number ≡ 1 = eqb-true p.number 1 c.0 in
    record { low = omega arith; main = leb-true (stated_main p.page) longest_file b.1; side = leb-true (stated_side p.page) longest_file a.1 }

-- a list without a fault ends in a sizes page, and no page before lies past the lengths that it states
no_fault : (last : NumberedPage) (front : List NumberedPage) → fault_before (Some last) front ≡ None → (is_sizes last ≡ true) × (length_fault (stated_main last.page) (stated_side last.page) front ≡ None)
unfolding fault_before
no_fault last front e = by (is_sizes last) (order_fault 1 front) refl e
  where
    by : (b : Bool) (o : Option PageFault) → is_sizes last ≡ b
        → cond b (earlier o (length_fault (stated_main last.page) (stated_side last.page) front)) (Some NoSizes) ≡ None → (is_sizes last ≡ true) × (length_fault (stated_main last.page) (stated_side last.page) front ≡ None)
    by true None sizes f = (sizes, f)
    by true (Some fault) sizes f = absurd cc
    by false o sizes f = absurd cc

some_of_fault : (qs : List NumberedPage) → page_fault qs ≡ None → 1 ≤ length qs
unfolding fault_before
some_of_fault [] e = absurd cc
some_of_fault (q ∷ qs) e = omega arith

before : (front : List NumberedPage) (last : NumberedPage) → take (length (front ++ last ∷ []) - 1) (front ++ last ∷ []) ≡ front
before front last =
    let whole : length (front ++ last ∷ []) ≡ length front + 1 = length_push front last in
    let size : length front ≡ length (front ++ last ∷ []) - 1 = omega arith in
    take_at front (last ∷ []) (length (front ++ last ∷ []) - 1) size

at_end : (front : List NumberedPage) (last : NumberedPage) → last_page (front ++ last ∷ []) ≡ Some last
at_end front last = last_page-push front last

pub low_pages : (ps : List NumberedPage) → page_fault ps ≡ None → AllByRecursion IsLow ps
low_pages ps e =
    let h = has_last ps (some_of_fault ps e) in
    let fault : page_fault ps ≡ fault_before (Some h.last) h.front =
    ap page_fault h.parts ∙ ap (λ (o : Option NumberedPage). fault_before o (take (length (h.front ++ h.last ∷ []) - 1) (h.front ++ h.last ∷ []))) (at_end h.front h.last) ∙ ap (fault_before (Some h.last)) (before h.front h.last) in
    let sound = no_fault h.last h.front (sym fault ∙ e) in
    let stated = sizes_say h.last sound.0 in
    subst (AllByRecursion IsLow) (sym h.parts) (all_both IsLow h.front (h.last ∷ []) (lows (stated_main h.last.page) (stated_side h.last.page) h.front stated.main stated.side sound.1) (stated.low, tt))

none_is : (o : Option PageFault) → is_none o ≡ true → o ≡ None
none_is None e = refl
none_is (Some fault) e = absurd cc

-- pages that can be applied can be split
pub splits : (ps : List NumberedPage) → is_none (page_fault ps) ≡ true → can_split ps ≡ true
splits ps e = applied_can_split ps (none_is (page_fault ps) e) (All-from_recursion IsLow ps (low_pages ps (none_is (page_fault ps) e)))
