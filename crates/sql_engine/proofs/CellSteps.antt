-- The steps of the loop over the pages that setting a cell lists.
use Rattle.std.proofs.Common.{◌≡◌, ℕ, suc, ◌+◌, ◌-◌, ◌*◌, ◌<◌, ◌≤◌, List, [], ◌++◌, Some, refl, sym, ap, ◌∙◌, append_assoc, arith}
use Rattle.std.proofs.lemmas.List.{append-nil}
use Rattle.dq_base.specs.declared.images.Image.{Image}
use Rattle.dq_base.specs.declared.pages.NumberedPage.{NumberedPage}
use Rattle.dq_base.specs.Images.{page_at}
use Rattle.dq_base.specs.Changes.{changed_page}
use Rattle.sql_engine.specs.CellChanges.{new_page, cells_from}

cells_next : (image : Image) (page value index count : ℕ) → cells_from image page value index (suc count) ≡ changed_page (2 * index) (page_at image (2 * index)) (Some (new_page page value index)) ++ cells_from image page value (index + 1) count
unfolding cells_from
cells_next image page value index count = refl

cells_none : (image : Image) (page value index : ℕ) → cells_from image page value index 0 ≡ []
unfolding cells_from
cells_none image page value index = refl

pub cells_more : (image : Image) (page value index until : ℕ) (bytes : List ℕ) (before after total : List NumberedPage) → index < until → bytes ≡ new_page page value index
    → after ≡ before ++ changed_page (2 * index) (page_at image (2 * index)) (Some bytes)
    → before ++ cells_from image page value index (until - index) ≡ total
    → after ++ cells_from image page value (index + 1) (until - (index + 1)) ≡ total
cells_more image page value index until bytes before after total within bytes_are added so_far =
    let left : ℕ = until - (index + 1) in
    let one : until - index ≡ suc left = omega arith in
    let listed : List NumberedPage = changed_page (2 * index) (page_at image (2 * index)) (Some (new_page page value index)) in
    let rest : List NumberedPage = cells_from image page value (index + 1) left in
    ap (λ (ps : List NumberedPage). ps ++ rest) (added ∙ ap (λ (b : List ℕ). before ++ changed_page (2 * index) (page_at image (2 * index)) (Some b)) bytes_are)
    ∙ append_assoc before listed rest
    ∙ ap (λ (ps : List NumberedPage). before ++ ps) (sym (cells_next image page value index left))
    ∙ ap (λ (n : ℕ). before ++ cells_from image page value index n) (sym one)
    ∙ so_far

pub cells_all : (image : Image) (page value index until : ℕ) (pages total : List NumberedPage) → until ≤ index → pages ++ cells_from image page value index (until - index) ≡ total → pages ≡ total
cells_all image page value index until pages total le so_far =
    let none : until - index ≡ 0 = omega arith in
    sym (append-nil pages)
    ∙ ap (λ (ps : List NumberedPage). pages ++ ps) (sym (cells_none image page value index))
    ∙ ap (λ (n : ℕ). pages ++ cells_from image page value index n) (sym none)
    ∙ so_far
