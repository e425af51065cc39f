-- The steps of the loops over the pages of a set.
use Rattle.std.proofs.Common.{◌≡◌, ℕ, ◌+◌, ◌%◌, ◌<◌, ◌≤◌, Bool, true, false, cond, eqb, leb, List, ◌∷◌, length, get_or, drop, Option, Some, None, sym, ap, ◌∙◌}
use Rattle.std.proofs.lemmas.Bool.{cond-true, cond-false, le-leb, lt-leb}
use Rattle.std.proofs.lemmas.List.{at_drop_more, at_drop_all}
use Rattle.dq_base.specs.declared.pages.NumberedPage.{NumberedPage}
use Rattle.dq_base.specs.declared.page_fault.PageFault.{PageFault}
use Rattle.dq_base.specs.declared.page_fault.PageFault.TheVariants.{Order, NotInLength}
use Rattle.dq_base.specs.Images.{page_start}
use Rattle.dq_base.specs.Applying.{replaced, put_pages, order_fault, length_fault}

-- what a list leaves to do at its item, one item on
next : {Y : Type 0} (F : List NumberedPage → Y) (ps : List NumberedPage) (i : ℕ) (p : NumberedPage) → i < length ps → p ≡ get_or ps i p → F (drop i ps) ≡ F (p ∷ drop (i + 1) ps)
next F ps i p lt is = at_drop_more F ps i p lt ∙ ap (λ (q : NumberedPage). F (q ∷ drop (i + 1) ps)) (sym is)

-- ---- the order

pub order_refused : (before i : ℕ) (ps : List NumberedPage) (p : NumberedPage) (total : Option PageFault) → i < length ps → p ≡ get_or ps i p → p.number ≤ before → order_fault before (drop i ps) ≡ total → total ≡ Some (Order p.number)
unfolding order_fault
order_refused before i ps p total lt is low so_far =
    sym so_far ∙ next (order_fault before) ps i p lt is ∙ cond-true (leb p.number before) (Some (Order p.number)) (order_fault p.number (drop (i + 1) ps)) (le-leb p.number before low)

pub order_more : (before i : ℕ) (ps : List NumberedPage) (p : NumberedPage) (total : Option PageFault) → i < length ps → p ≡ get_or ps i p → before < p.number → order_fault before (drop i ps) ≡ total → order_fault p.number (drop (i + 1) ps) ≡ total
unfolding order_fault
order_more before i ps p total lt is high so_far =
    sym (next (order_fault before) ps i p lt is ∙ cond-false (leb p.number before) (Some (Order p.number)) (order_fault p.number (drop (i + 1) ps)) (lt-leb p.number before high)) ∙ so_far

pub order_all : (before i : ℕ) (ps : List NumberedPage) (total : Option PageFault) → length ps ≤ i → order_fault before (drop i ps) ≡ total → total ≡ None
unfolding order_fault
order_all before i ps total le so_far = sym so_far ∙ at_drop_all (order_fault before) ps i le

-- ---- the lengths

abbrev pub length_of : ℕ → ℕ → NumberedPage → ℕ
length_of main side p = cond (eqb (p.number % 2) 0) main side

pub length_refused : (main side i : ℕ) (ps : List NumberedPage) (p : NumberedPage) (total : Option PageFault) → i < length ps → p ≡ get_or ps i p → leb (length_of main side p) (page_start p.number) ≡ true → length_fault main side (drop i ps) ≡ total → total ≡ Some (NotInLength p.number)
unfolding length_fault
length_refused main side i ps p total lt is past so_far =
    sym so_far ∙ next (length_fault main side) ps i p lt is ∙ cond-true (leb (length_of main side p) (page_start p.number)) (Some (NotInLength p.number)) (length_fault main side (drop (i + 1) ps)) past

pub length_more : (main side i : ℕ) (ps : List NumberedPage) (p : NumberedPage) (total : Option PageFault) → i < length ps → p ≡ get_or ps i p → leb (length_of main side p) (page_start p.number) ≡ false → length_fault main side (drop i ps) ≡ total → length_fault main side (drop (i + 1) ps) ≡ total
unfolding length_fault
length_more main side i ps p total lt is inside so_far =
    sym (next (length_fault main side) ps i p lt is ∙ cond-false (leb (length_of main side p) (page_start p.number)) (Some (NotInLength p.number)) (length_fault main side (drop (i + 1) ps)) inside) ∙ so_far

pub length_all : (main side i : ℕ) (ps : List NumberedPage) (total : Option PageFault) → length ps ≤ i → length_fault main side (drop i ps) ≡ total → total ≡ None
unfolding length_fault
length_all main side i ps total le so_far = sym so_far ∙ at_drop_all (length_fault main side) ps i le

-- ---- the pages put into a file

pub put_more : (mine : ℕ → Bool) (i : ℕ) (ps : List NumberedPage) (p : NumberedPage) (file next_file total : List ℕ) → i < length ps → p ≡ get_or ps i p → next_file ≡ cond (mine p.number) (replaced file (page_start p.number) p.page) file
    → put_pages mine (drop i ps) file ≡ total → put_pages mine (drop (i + 1) ps) next_file ≡ total
unfolding put_pages
put_more mine i ps p file next_file total lt is step so_far =
    ap (put_pages mine (drop (i + 1) ps)) step ∙ sym (next (λ (qs : List NumberedPage). put_pages mine qs file) ps i p lt is) ∙ so_far

pub put_all : (mine : ℕ → Bool) (i : ℕ) (ps : List NumberedPage) (file total : List ℕ) → length ps ≤ i → put_pages mine (drop i ps) file ≡ total → file ≡ total
unfolding put_pages
put_all mine i ps file total le so_far = sym (at_drop_all (λ (qs : List NumberedPage). put_pages mine qs file) ps i le) ∙ so_far
