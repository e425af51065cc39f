-- A change between images with files that are not too long is a list of pages without a fault.
use Rattle.std.proofs.Common.{◌≡◌, ℕ, zero, suc, ◌%◌, ◌<◌, ◌≤◌, Bool, true, false, cond, eqb, leb, List, [], ◌∷◌, ◌++◌, length, Option, Some, None, refl, ap, subst, ◌∙◌, arith}
use Rattle.std.specs.Prelude.{◌==◌}
use Rattle.std.specs.Str.{bytes_eq}
use Rattle.std.specs.List.{AllByRecursion, list_all}
use Rattle.std.proofs.lemmas.Bool.{cond-false, lt-leb}
use Rattle.std.proofs.lemmas.List.{drop_at}
use Rattle.byteorder.specs.Endian.{little_bytes}
use Rattle.dq_base.specs.declared.images.Image.{Image}
use Rattle.dq_base.specs.declared.pages.NumberedPage.{NumberedPage}
use Rattle.dq_base.specs.declared.page_fault.PageFault.TheVariants.{NotInLength, Order}
use Rattle.dq_base.specs.Images.{zeros, sizes_page, page_start, page_at}
use Rattle.dq_base.specs.Changes.{changed_page, changed_from, numbers_above_one, sizes_of, changed}
use Rattle.dq_base.specs.Applying.{stated_main, stated_side, longest_file, is_sizes, order_fault, length_fault, page_fault}
use Rattle.dq_base.proofs.ChangedPages.{numbered, page_at_is, changed_from_all}
use Rattle.dq_base.proofs.ChangeLaw.{stated_main-sizes_page, stated_side-sizes_page, changed_is}
use Rattle.dq_base.proofs.PageFaults.{page_fault-push, later_fault, earlier_none}
use Rattle.dq_base.proofs.SizesTests.{zeros_past_lengths, is_sizes-true}

-- ---- the sizes page of an image

all_zeros : (n : ℕ) → list_all (λ b. b == 0) (zeros n) ≡ true
unfolding zeros
all_zeros zero = refl
all_zeros (suc n) = all_zeros n

padding : (main side : ℕ) → zeros_past_lengths (sizes_page main side) ≡ true
unfolding sizes_page
padding main side = ap (list_all (λ b. b == 0)) (drop_at (little_bytes 8 main ++ little_bytes 8 side) (zeros 4080) 16 refl) ∙ all_zeros 4080

sizes_are_sizes : (b : Image) → length b.main ≤ longest_file → length b.side ≤ longest_file → is_sizes (sizes_of b) ≡ true
sizes_are_sizes b main_fits side_fits =
    let main : stated_main (sizes_of b).page ≡ length b.main = stated_main-sizes_page (length b.main) (length b.side) (omega arith) in
    let side : stated_side (sizes_of b).page ≡ length b.side = stated_side-sizes_page (length b.main) (length b.side) (omega arith) in
    is_sizes-true (sizes_of b) refl (padding (length b.main) (length b.side)) (omega arith) (omega arith)

-- ---- the order

order_page : (before n : ℕ) (old new : Option (List ℕ)) (rest : List NumberedPage) → before < n → order_fault n rest ≡ None → order_fault before rest ≡ None → order_fault before (changed_page n old new ++ rest) ≡ None
unfolding order_fault
order_page before n None None rest above listed skipped = skipped
order_page before n (Some old) None rest above listed skipped = skipped
order_page before n None (Some new) rest above listed skipped = cond-false (leb n before) (Some (Order n)) (order_fault n rest) (lt-leb n before above) ∙ listed
order_page before n (Some old) (Some new) rest above listed skipped =
    elim (bytes_eq old new) as (λ t. order_fault before (cond t [] (numbered n new ∷ []) ++ rest) ≡ None) [
      | true ↦ skipped
      | false ↦ cond-false (leb n before) (Some (Order n)) (order_fault n rest) (lt-leb n before above) ∙ listed
    ]

ascending : (before n count : ℕ) (a b : Image) → before < n → order_fault before (changed_from n count a b) ≡ None
unfolding changed_from order_fault
ascending before n zero a b above = refl
ascending before n (suc count) a b above =
    order_page before n (page_at a n) (page_at b n) (changed_from (suc n) count a b) above (ascending n (suc n) count a b (omega arith)) (ascending before (suc n) count a b (omega arith))

-- ---- the lengths

-- a page that its file reaches into
abbrev Reached : ℕ → ℕ → NumberedPage → Type 0
Reached main side p = page_start p.number < cond (eqb (p.number % 2) 0) main side

all_reached : (main side : ℕ) (ps : List NumberedPage) → AllByRecursion (Reached main side) ps → length_fault main side ps ≡ None
unfolding length_fault
all_reached main side [] h = refl
all_reached main side (p ∷ ps) h =
    cond-false (leb (cond (eqb (p.number % 2) 0) main side) (page_start p.number)) (Some (NotInLength p.number)) (length_fault main side ps) (lt-leb _ _ h.0) ∙ all_reached main side ps h.1

length_of_file : (t : Bool) (main side : List ℕ) → length (cond t main side) ≡ cond t (length main) (length side)
length_of_file true main side = refl
length_of_file false main side = refl

reached : (b : Image) (m : ℕ) (page : List ℕ) → 2 ≤ m → page_at b m ≡ Some page → Reached (length b.main) (length b.side) (numbered m page)
reached b m page above is =
    let inside = (page_at_is b m page (omega arith) is).1 in
    subst (λ (n : ℕ). page_start m < n) (length_of_file (eqb (m % 2) 0) b.main b.side) inside

pub change_is_sound : (a b : Image) → (a ≡ b → ⊥) → length b.main ≤ longest_file → length b.side ≤ longest_file → page_fault (changed a b) ≡ None
change_is_sound a b differ main_fits side_fits =
    let front : List NumberedPage = changed_from 2 (numbers_above_one b) a b in
    let last : NumberedPage = sizes_of b in
    let main : stated_main last.page ≡ length b.main = stated_main-sizes_page (length b.main) (length b.side) (omega arith) in
    let side : stated_side last.page ≡ length b.side = stated_side-sizes_page (length b.main) (length b.side) (omega arith) in
    let order : order_fault 1 front ≡ None = ascending 1 2 (numbers_above_one b) a b (omega arith) in
    let lengths : length_fault (stated_main last.page) (stated_side last.page) front ≡ None =
    rw (main, side) (all_reached (length b.main) (length b.side) front (changed_from_all (Reached (length b.main) (length b.side)) 2 (numbers_above_one b) a b (reached b))) in
    page_fault-push (changed a b) front last (changed_is a b differ)
    ∙ later_fault last front (sizes_are_sizes b main_fits side_fits)
    ∙ earlier_none (order_fault 1 front) (length_fault (stated_main last.page) (stated_side last.page) front) order
    ∙ lengths
