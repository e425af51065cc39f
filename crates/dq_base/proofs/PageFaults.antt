-- The first fault of a list of pages, from its last page and the pages before it.
use Rattle.std.proofs.Common.{◌≡◌, ℕ, ◌-◌, ◌%◌, true, false, cond, eqb, leb, List, [], ◌∷◌, ◌++◌, length, take, Option, Some, None, refl, sym, ap, ◌∙◌, arith}
use Rattle.std.specs.Prelude.{slice_get}
use Rattle.std.proofs.lemmas.Bool.{cond-true, cond-false, cond_both}
use Rattle.std.proofs.lemmas.List.{take_at, length_push, nil_from_length}
use Rattle.dq_base.specs.declared.pages.NumberedPage.{NumberedPage}
use Rattle.dq_base.specs.declared.page_fault.PageFault.{PageFault}
use Rattle.dq_base.specs.declared.page_fault.PageFault.TheVariants.{NoSizes, Order, NotInLength, NoMemory}
use Rattle.dq_base.specs.Images.{page_start}
use Rattle.dq_base.specs.Applying.{stated_main, stated_side, last_page, applied_with, applied, is_sizes, order_fault, length_fault, earlier, fault_before, page_fault, IsRefusal, StateLengths}

slice_get_end : {X : Type 0} (xs : List X) (x : X) → slice_get (xs ++ x ∷ []) (length xs) ≡ Some x
slice_get_end [] x = refl
slice_get_end (y ∷ ys) x = slice_get_end ys x

-- the length before the last one
one_less : (ps : List NumberedPage) (p : NumberedPage) → length (ps ++ p ∷ []) - 1 ≡ length ps
one_less ps p = omega (arith, length_push ps p)

pub last_page-push : (ps : List NumberedPage) (p : NumberedPage) → last_page (ps ++ p ∷ []) ≡ Some p
last_page-push ps p = ap (slice_get (ps ++ p ∷ [])) (one_less ps p) ∙ slice_get_end ps p

pub page_fault-push : (pages front : List NumberedPage) (last : NumberedPage) → pages ≡ front ++ last ∷ [] → page_fault pages ≡ fault_before (Some last) front
page_fault-push pages front last e =
    let before : take (length (front ++ last ∷ []) - 1) (front ++ last ∷ []) ≡ front = take_at front (last ∷ []) (length (front ++ last ∷ []) - 1) (sym (one_less front last)) in
    ap page_fault e
    ∙ ap (λ (o : Option NumberedPage). fault_before o (take (length (front ++ last ∷ []) - 1) (front ++ last ∷ []))) (last_page-push front last)
    ∙ ap (fault_before (Some last)) before

pub StateLengths-push : (pages front : List NumberedPage) (last : NumberedPage) → pages ≡ front ++ last ∷ [] → StateLengths pages (stated_main last.page) (stated_side last.page)
unfolding applied
StateLengths-push pages front last e image =
    ap (λ (o : Option NumberedPage). applied_with o pages image) (ap last_page e ∙ last_page-push front last)

-- ---- the faults in turn

pub no_pages : (pages : List NumberedPage) → length pages ≡ 0 → page_fault pages ≡ Some NoSizes
unfolding fault_before
no_pages pages none = ap page_fault (nil_from_length pages none)

pub no_sizes : (last : NumberedPage) (front : List NumberedPage) → is_sizes last ≡ false → fault_before (Some last) front ≡ Some NoSizes
unfolding fault_before
no_sizes last front other = cond-false (is_sizes last) (earlier (order_fault 1 front) (length_fault (stated_main last.page) (stated_side last.page) front)) (Some NoSizes) other

pub later_fault : (last : NumberedPage) (front : List NumberedPage) → is_sizes last ≡ true → fault_before (Some last) front ≡ earlier (order_fault 1 front) (length_fault (stated_main last.page) (stated_side last.page) front)
unfolding fault_before
later_fault last front sizes = cond-true (is_sizes last) (earlier (order_fault 1 front) (length_fault (stated_main last.page) (stated_side last.page) front)) (Some NoSizes) sizes

pub earlier_some : (first later : Option PageFault) (fault : PageFault) → first ≡ Some fault → earlier first later ≡ Some fault
earlier_some first later fault e = ap (λ (o : Option PageFault). earlier o later) e

pub earlier_none : (first later : Option PageFault) → first ≡ None → earlier first later ≡ later
earlier_none first later e = ap (λ (o : Option PageFault). earlier o later) e

-- ---- out of memory is no fault of a list

abbrev NotMemory : Option PageFault → Type 0
NotMemory found = found ≡ Some NoMemory → ⊥

order_fault-not_memory : (before : ℕ) (ps : List NumberedPage) → NotMemory (order_fault before ps)
unfolding order_fault
order_fault-not_memory before [] = λ e. absurd cc
order_fault-not_memory before (p ∷ ps) =
    cond_both (leb p.number before) (Some (Order p.number)) (order_fault p.number ps) NotMemory (λ _ e. absurd cc) (λ _. order_fault-not_memory p.number ps)

length_fault-not_memory : (main side : ℕ) (ps : List NumberedPage) → NotMemory (length_fault main side ps)
unfolding length_fault
length_fault-not_memory main side [] = λ e. absurd cc
length_fault-not_memory main side (p ∷ ps) =
    cond_both (leb (cond (eqb (p.number % 2) 0) main side) (page_start p.number)) (Some (NotInLength p.number)) (length_fault main side ps) NotMemory (λ _ e. absurd cc) (λ _. length_fault-not_memory main side ps)

earlier-not_memory : (first later : Option PageFault) → NotMemory first → NotMemory later → NotMemory (earlier first later)
earlier-not_memory None later h k = k
earlier-not_memory (Some fault) later h k = h

fault_before-not_memory : (last : Option NumberedPage) (front : List NumberedPage) → NotMemory (fault_before last front)
unfolding fault_before
fault_before-not_memory None front = λ e. absurd cc
fault_before-not_memory (Some last) front =
    cond_both (is_sizes last) (earlier (order_fault 1 front) (length_fault (stated_main last.page) (stated_side last.page) front)) (Some NoSizes) NotMemory
    (λ _. earlier-not_memory (order_fault 1 front) (length_fault (stated_main last.page) (stated_side last.page) front) (order_fault-not_memory 1 front) (length_fault-not_memory (stated_main last.page) (stated_side last.page) front))
    (λ _ e. absurd cc)

refusal : (fault : PageFault) (found : Option PageFault) → NotMemory found → found ≡ Some fault → IsRefusal fault found
refusal NoSizes found other e = e
refusal (Order number) found other e = e
refusal (NotInLength number) found other e = e
refusal NoMemory found other e = absurd (other e)

-- the first fault of a list is a reason to refuse it
pub page_fault-refuses : (pages : List NumberedPage) (fault : PageFault) → page_fault pages ≡ Some fault → IsRefusal fault (page_fault pages)
page_fault-refuses pages fault e = refusal fault (page_fault pages) (fault_before-not_memory (last_page pages) (take (length pages - 1) pages)) e
