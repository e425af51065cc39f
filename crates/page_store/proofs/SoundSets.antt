-- A set that can be applied: it ends with its one sizes page, and applying it is laying its pages into both files.
use Rattle.std.proofs.Common.{◌≡◌, ℕ, ◌+◌, ◌-◌, ◌<◌, ◌≤◌, true, false, eqb, leb, List, [], ◌∷◌, ◌++◌, length, take, Option, Some, None, refl, sym, ap, ◌∙◌, append-nil, append_assoc, arith, inl, inr}
use Rattle.std.specs.List.{AllByRecursion}
use Rattle.std.proofs.lemmas.Bool.{and_parts, cond-true, cond-false, cases_Bool, eqb-true, eq-eqb, ne_eqb, leb-false}
use Rattle.std.proofs.lemmas.List.{take_more, take_all}
use Rattle.std.proofs.lemmas.Option.{slice_get_within, get_or_from_slice_get}
use Rattle.dq_base.specs.declared.images.Image.{Image}
use Rattle.dq_base.specs.declared.pages.NumberedPage.{NumberedPage}
use Rattle.dq_base.specs.declared.page_fault.PageFault.{PageFault}
use Rattle.dq_base.specs.declared.page_fault.PageFault.TheVariants.{NoSizes, Order}
use Rattle.dq_base.specs.Images.{resized, is_main, is_side}
use Rattle.dq_base.specs.Applying.{stated_main, stated_side, put_pages, last_page, applied_with, applied, is_sizes, order_fault, length_fault, earlier, fault_before, lengths_stated, lengths_in}
use Rattle.page_store.specs.Sets.{sets_from, sets_of, open_after}
use Rattle.page_store.specs.Holding.{IsSoundSet}
use Rattle.page_store.proofs.SetLists.{sets_from-append, open_after-append}

-- what a set without a fault is made of
pub record Parts (set : List NumberedPage) : Type 0 where
  pub front : List NumberedPage
  pub last : NumberedPage
  pub is : set ≡ front ++ last ∷ []
  pub last_is : last_page set ≡ Some last
  pub one : last.number ≡ 1
  pub above : AllByRecursion (λ p. 1 < p.number) front

-- a list up to its last page
split_last : (set : List NumberedPage) (last : NumberedPage) → last_page set ≡ Some last → set ≡ take (length set - 1) set ++ last ∷ []
split_last set last e =
    let inside : length set - 1 < length set = slice_get_within set (length set - 1) last e in
    let next : length set - 1 + 1 ≡ length set = omega arith in
    sym (take_all (length set) set (omega arith))
    ∙ ap (λ (n : ℕ). take n set) (sym next)
    ∙ take_more set (length set - 1) last inside
    ∙ ap (λ (p : NumberedPage). take (length set - 1) set ++ p ∷ []) (get_or_from_slice_get set (length set - 1) last last e)

ordered : (before : ℕ) (ps : List NumberedPage) → 1 ≤ before → order_fault before ps ≡ None → AllByRecursion (λ p. 1 < p.number) ps
unfolding order_fault
ordered before [] from e = tt
ordered before (p ∷ ps) from e =
    elim (cases_Bool (leb p.number before)) [
      | inl low ↦ absurd (let found : Some (Order p.number) ≡ None = sym (cond-true (leb p.number before) (Some (Order p.number)) (order_fault p.number ps) low) ∙ e in cc)
      | inr high ↦
          let lt : before < p.number = leb-false p.number before high in
          (omega arith, ordered p.number ps (omega arith) (sym (cond-false (leb p.number before) (Some (Order p.number)) (order_fault p.number ps) high) ∙ e))
    ]

first_none : (first later : Option PageFault) → earlier first later ≡ None → first ≡ None
first_none None later e = refl
first_none (Some fault) later e = e

sizes_number : (last : NumberedPage) → is_sizes last ≡ true → last.number ≡ 1
unfolding is_sizes
sizes_number last e = eqb-true last.number 1 (and_parts _ _ (and_parts _ _ (and_parts _ _ e).0).0).0

parts_of : (set : List NumberedPage) (found : Option NumberedPage) → last_page set ≡ found → fault_before found (take (length set - 1) set) ≡ None → Parts set
unfolding fault_before
parts_of set None is e = absurd cc
parts_of set (Some last) is e =
    let front : List NumberedPage = take (length set - 1) set in
    let faults : Option PageFault = earlier (order_fault 1 front) (length_fault (stated_main last.page) (stated_side last.page) front) in
    elim (cases_Bool (is_sizes last)) [
      | inr other ↦ absurd (let fault : Some NoSizes ≡ None = sym (cond-false (is_sizes last) faults (Some NoSizes) other) ∙ e in cc)
      | inl sizes ↦
          let none : faults ≡ None = sym (cond-true (is_sizes last) faults (Some NoSizes) sizes) ∙ e in
          record {
            front = front;
            last = last;
            is = split_last set last is;
            last_is = is;
            one = sizes_number last sizes;
            above = ordered 1 front (omega arith) (first_none (order_fault 1 front) (length_fault (stated_main last.page) (stated_side last.page) front) none);
          }
    ]

pub parts : (set : List NumberedPage) → IsSoundSet set → Parts set
parts set sound = parts_of set (last_page set) refl sound

-- ---- such a set is one whole set

no_set : (begun ps : List NumberedPage) → AllByRecursion (λ p. 1 < p.number) ps → (sets_from begun ps ≡ []) × (open_after begun ps ≡ begun ++ ps)
no_set begun [] above = (refl, sym (append-nil begun))
no_set begun (p ∷ ps) above =
    let lt : 1 < p.number = above.0 in
    let other : eqb p.number 1 ≡ false = ne_eqb p.number 1 (λ e. omega arith) in
    let rest = no_set (begun ++ p ∷ []) ps above.1 in (
      cond-false (eqb p.number 1) ((begun ++ p ∷ []) ∷ sets_from [] ps) (sets_from (begun ++ p ∷ []) ps) other ∙ rest.0,
      cond-false (eqb p.number 1) (open_after [] ps) (open_after (begun ++ p ∷ []) ps) other ∙ rest.1 ∙ append_assoc begun (p ∷ []) ps,
    )

one_set_of : (front : List NumberedPage) (last : NumberedPage) → AllByRecursion (λ p. 1 < p.number) front → last.number ≡ 1
    → (sets_from [] (front ++ last ∷ []) ≡ (front ++ last ∷ []) ∷ []) × (open_after [] (front ++ last ∷ []) ≡ [])
one_set_of front last above one =
    let none = no_set [] front above in
    let is_one : eqb last.number 1 ≡ true = eq-eqb last.number 1 one in (
      sets_from-append [] front (last ∷ [])
          ∙ ap (λ (ss : List (List NumberedPage)). ss ++ sets_from (open_after [] front) (last ∷ [])) none.0
          ∙ ap (λ (b : List NumberedPage). sets_from b (last ∷ [])) none.1
          ∙ cond-true (eqb last.number 1) ((front ++ last ∷ []) ∷ []) [] is_one,
      open_after-append [] front (last ∷ [])
          ∙ ap (λ (b : List NumberedPage). open_after b (last ∷ [])) none.1
          ∙ cond-true (eqb last.number 1) [] (front ++ last ∷ []) is_one,
    )

pub one_set : (set : List NumberedPage) → IsSoundSet set → sets_of set ≡ set ∷ []
unfolding sets_of
one_set set sound =
    let p = parts set sound in
    ap (sets_from []) p.is ∙ (one_set_of p.front p.last p.above p.one).0 ∙ ap (λ (s : List NumberedPage). s ∷ []) (sym p.is)

pub one_set_closed : (set : List NumberedPage) → IsSoundSet set → open_after [] set ≡ []
one_set_closed set sound =
    let p = parts set sound in
    ap (open_after []) p.is ∙ (one_set_of p.front p.last p.above p.one).1

-- ---- applying it

pub applied_main : (image : Image) (set : List NumberedPage) → IsSoundSet set → (applied image set).main ≡ put_pages is_main set (resized (lengths_in set).main image.main)
unfolding applied
applied_main image set sound =
    let p = parts set sound in
    ap (λ (o : Option NumberedPage). (applied_with o set image).main) p.last_is
    ∙ ap (λ (o : Option NumberedPage). put_pages is_main set (resized (lengths_stated o).main image.main)) (sym p.last_is)

pub applied_side : (image : Image) (set : List NumberedPage) → IsSoundSet set → (applied image set).side ≡ put_pages is_side set (resized (lengths_in set).side image.side)
unfolding applied
applied_side image set sound =
    let p = parts set sound in
    ap (λ (o : Option NumberedPage). (applied_with o set image).side) p.last_is
    ∙ ap (λ (o : Option NumberedPage). put_pages is_side set (resized (lengths_stated o).side image.side)) (sym p.last_is)
