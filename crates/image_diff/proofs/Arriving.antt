-- The change to an image that is described by the pages that were touched.
use Rattle.std.proofs.Common.{◌≡◌, ℕ, ◌+◌, ◌^◌, ◌<◌, ◌≤◌, Bool, true, false, cond, ltb, List, [], ◌∷◌, ◌++◌, length, get_or, drop, Option, Some, None, refl, sym, ap, ◌∙◌, append_assoc, append-nil}
use Rattle.std.specs.Prelude.{◌&&◌}
use Rattle.std.proofs.lemmas.List.{at_drop_more, at_drop_all}
use Rattle.dq_base.specs.declared.images.Image.{Image}
use Rattle.dq_base.specs.declared.pages.NumberedPage.{NumberedPage}
use Rattle.dq_base.specs.Images.{page_at}
use Rattle.dq_base.specs.Changes.{changed_page, changed, sizes_of}
use Rattle.image_diff.specs.Touched.{no_pages, numbers_of, changed_at, same_lengths, put_in_order, ListsAll}
use Rattle.image_diff.specs.Reached.{pages_at, newer, reached_at, change_to}
use Rattle.image_diff.proofs.Touched.{change_in_order}

-- ---- the change

newer_at : (n : ℕ) (a : Image) (o : Option (List ℕ)) (rest : List NumberedPage) → newer a (changed_page n None o ++ rest) ≡ changed_page n (page_at a n) o ++ newer a rest
unfolding newer
newer_at n a None rest = by (page_at a n)
  where
    by : (before : Option (List ℕ)) → newer a rest ≡ changed_page n before None ++ newer a rest
    by before = refl
newer_at n a (Some page) rest = refl

newer_is : (ns : List ℕ) (a b : Image) → newer a (pages_at ns b) ≡ changed_at ns a b
unfolding newer pages_at
newer_is [] a b = refl
newer_is (n ∷ ns) a b = newer_at n a (page_at b n) (pages_at ns b) ∙ ap (λ (ps : List NumberedPage). changed_page n (page_at a n) (page_at b n) ++ ps) (newer_is ns a b)

-- what is reported of an image by the touched pages gives the whole change to it
pub arrives : (touched : List ℕ) (a b : Image) → ListsAll touched a b → length b.main < 2 ^ 64 → length b.side < 2 ^ 64 → change_to a (reached_at (put_in_order [] touched) b) ≡ changed a b
arrives touched a b lists main_fits side_fits =
    ap (λ (ps : List NumberedPage). cond (no_pages ps && same_lengths a b) [] (ps ++ sizes_of b ∷ [])) (newer_is (put_in_order [] touched) a b) ∙ change_in_order touched a b lists main_fits side_fits

-- ---- the steps of the loops

-- the number of a page above 1
abbrev pub number_above : ℕ → List ℕ
number_above n = cond (ltb 1 n) (n ∷ []) []

numbers_next : (p : NumberedPage) (ps : List NumberedPage) → numbers_of (p ∷ ps) ≡ number_above p.number ++ numbers_of ps
numbers_next p ps = elim (ltb 1 p.number) as (λ (t : Bool). cond t (p.number ∷ numbers_of ps) (numbers_of ps) ≡ cond t (p.number ∷ []) [] ++ numbers_of ps) [ true ↦ refl | false ↦ refl ]

pub numbers_more : (made grown : List ℕ) (ps : List NumberedPage) (i : ℕ) (p : NumberedPage) (all : List ℕ) → i < length ps → p ≡ get_or ps i p → grown ≡ made ++ number_above p.number
    → made ++ numbers_of (drop i ps) ≡ all → grown ++ numbers_of (drop (i + 1) ps) ≡ all
numbers_more made grown ps i p all at is step so_far =
    let next : numbers_of (drop i ps) ≡ numbers_of (p ∷ drop (i + 1) ps) = at_drop_more numbers_of ps i p at ∙ ap (λ (q : NumberedPage). numbers_of (q ∷ drop (i + 1) ps)) (sym is) in
    ap (λ (made : List ℕ). made ++ numbers_of (drop (i + 1) ps)) step
    ∙ append_assoc made (number_above p.number) (numbers_of (drop (i + 1) ps))
    ∙ ap (λ (more : List ℕ). made ++ more) (sym (next ∙ numbers_next p (drop (i + 1) ps)))
    ∙ so_far

pub numbers_all : (made : List ℕ) (ps : List NumberedPage) (i : ℕ) (all : List ℕ) → length ps ≤ i → made ++ numbers_of (drop i ps) ≡ all → made ≡ all
numbers_all made ps i all past so_far = sym (append-nil made) ∙ ap (λ (more : List ℕ). made ++ more) (sym (at_drop_all numbers_of ps i past)) ∙ so_far

pub at_more : (image : Image) (made grown : List NumberedPage) (ns : List ℕ) (i n d : ℕ) (all : List NumberedPage) → i < length ns → n ≡ get_or ns i d → grown ≡ made ++ changed_page n None (page_at image n)
    → made ++ pages_at (drop i ns) image ≡ all → grown ++ pages_at (drop (i + 1) ns) image ≡ all
unfolding pages_at
at_more image made grown ns i n d all at is step so_far =
    let next : pages_at (drop i ns) image ≡ pages_at (n ∷ drop (i + 1) ns) image = at_drop_more (λ (ns : List ℕ). pages_at ns image) ns i d at ∙ ap (λ (m : ℕ). pages_at (m ∷ drop (i + 1) ns) image) (sym is) in
    ap (λ (made : List NumberedPage). made ++ pages_at (drop (i + 1) ns) image) step
    ∙ append_assoc made (changed_page n None (page_at image n)) (pages_at (drop (i + 1) ns) image)
    ∙ ap (λ (more : List NumberedPage). made ++ more) (sym next)
    ∙ so_far

pub at_all : (image : Image) (made : List NumberedPage) (ns : List ℕ) (i : ℕ) (all : List NumberedPage) → length ns ≤ i → made ++ pages_at (drop i ns) image ≡ all → made ≡ all
unfolding pages_at
at_all image made ns i all past so_far =
    sym (append-nil made) ∙ ap (λ (more : List NumberedPage). made ++ more) (sym (at_drop_all (λ (ns : List ℕ). pages_at ns image) ns i past)) ∙ so_far

pub newer_more : (before : Image) (made grown : List NumberedPage) (ps : List NumberedPage) (i : ℕ) (p : NumberedPage) (all : List NumberedPage) → i < length ps → p ≡ get_or ps i p → grown ≡ made ++ changed_page p.number (page_at before p.number) (Some p.page)
    → made ++ newer before (drop i ps) ≡ all → grown ++ newer before (drop (i + 1) ps) ≡ all
unfolding newer
newer_more before made grown ps i p all at is step so_far =
    let next : newer before (drop i ps) ≡ newer before (p ∷ drop (i + 1) ps) = at_drop_more (newer before) ps i p at ∙ ap (λ (q : NumberedPage). newer before (q ∷ drop (i + 1) ps)) (sym is) in
    ap (λ (made : List NumberedPage). made ++ newer before (drop (i + 1) ps)) step
    ∙ append_assoc made (changed_page p.number (page_at before p.number) (Some p.page)) (newer before (drop (i + 1) ps))
    ∙ ap (λ (more : List NumberedPage). made ++ more) (sym next)
    ∙ so_far

pub newer_all : (before : Image) (made : List NumberedPage) (ps : List NumberedPage) (i : ℕ) (all : List NumberedPage) → length ps ≤ i → made ++ newer before (drop i ps) ≡ all → made ≡ all
unfolding newer
newer_all before made ps i all past so_far =
    sym (append-nil made) ∙ ap (λ (more : List NumberedPage). made ++ more) (sym (at_drop_all (newer before) ps i past)) ∙ so_far
