-- The change between two images by the numbers of the pages that were touched.
use Rattle.std.proofs.Common.{◌≡◌, ℕ, ◌+◌, ◌^◌, ◌<◌, ◌≤◌, Bool, true, false, cond, List, [], ◌∷◌, ◌++◌, append_assoc, append-nil, length, get_or, drop, refl, sym, ap, ◌∙◌}
use Rattle.std.specs.Prelude.{◌&&◌}
use Rattle.std.proofs.lemmas.Bool.{cond-true, cond-false, and_parts}
use Rattle.std.proofs.lemmas.List.{at_drop_more, at_drop_all}
use Rattle.dq_base.specs.declared.images.Image.{Image}
use Rattle.dq_base.specs.declared.pages.NumberedPage.{NumberedPage}
use Rattle.dq_base.specs.Images.{page_at}
use Rattle.dq_base.specs.Changes.{changed_page, changed, sizes_of}
use Rattle.image_diff.specs.Touched.{no_pages}
use Rattle.image_diff.specs.Touched.{changed_at, same_lengths, put_in_order, ListsAll}
use Rattle.image_diff.proofs.Touched.{change_in_order}

pub listed_next : (a b : Image) (ns : List ℕ) (i : ℕ) (pages next total : List NumberedPage) → i < length ns
    → next ≡ pages ++ changed_page (get_or ns i 0) (page_at a (get_or ns i 0)) (page_at b (get_or ns i 0)) → pages ++ changed_at (drop i ns) a b ≡ total → next ++ changed_at (drop (i + 1) ns) a b ≡ total
listed_next a b ns i pages next total lt step so_far =
    let n = get_or ns i 0 in
    ap (λ (ps : List NumberedPage). ps ++ changed_at (drop (i + 1) ns) a b) step
    ∙ append_assoc pages (changed_page n (page_at a n) (page_at b n)) (changed_at (drop (i + 1) ns) a b)
    ∙ ap (λ (ps : List NumberedPage). pages ++ ps) (sym (at_drop_more (λ (ms : List ℕ). changed_at ms a b) ns i 0 lt))
    ∙ so_far

pub listed_all : (a b : Image) (ns : List ℕ) (i : ℕ) (pages total : List NumberedPage) → length ns ≤ i → pages ++ changed_at (drop i ns) a b ≡ total → pages ≡ total
listed_all a b ns i pages total le so_far =
    sym (append-nil pages) ∙ ap (λ (ps : List NumberedPage). pages ++ ps) (sym (at_drop_all (λ (ms : List ℕ). changed_at ms a b) ns i le)) ∙ so_far

no_page : (pages : List NumberedPage) → no_pages pages ≡ true → pages ≡ []
no_page [] e = refl
no_page (p ∷ ps) e = absurd cc

-- the pages at all numbers that were touched, in order, are the change, with the sizes page where something differs
module _ (a b : Image) (touched numbers : List ℕ) (pages : List NumberedPage) (lists : ListsAll touched a b) (order : numbers ≡ put_in_order [] touched) (are : pages ≡ changed_at numbers a b) (main_fits : length b.main < 2 ^ 64) (side_fits : length b.side < 2 ^ 64) where
  whole : cond (no_pages pages && same_lengths a b) [] (pages ++ sizes_of b ∷ []) ≡ changed a b
  whole =
      ap (λ (ps : List NumberedPage). cond (no_pages ps && same_lengths a b) [] (ps ++ sizes_of b ∷ [])) (are ∙ ap (λ (ns : List ℕ). changed_at ns a b) order)
      ∙ change_in_order touched a b lists main_fits side_fits

  pub nothing_changed : (unchanged : Bool) → unchanged ≡ (no_pages pages && same_lengths a b) → unchanged ≡ true → pages ≡ changed a b
  nothing_changed unchanged test is =
      let same : (no_pages pages && same_lengths a b) ≡ true = sym test ∙ is in
      no_page pages (and_parts (no_pages pages) (same_lengths a b) same).0 ∙ sym (cond-true _ [] (pages ++ sizes_of b ∷ []) same) ∙ whole

  pub all_changed : (unchanged : Bool) (next : List NumberedPage) → unchanged ≡ (no_pages pages && same_lengths a b) → unchanged ≡ false → next ≡ pages ++ sizes_of b ∷ [] → next ≡ changed a b
  all_changed unchanged next test is pushed = pushed ∙ sym (cond-false _ [] (pages ++ sizes_of b ∷ []) (sym test ∙ is)) ∙ whole
