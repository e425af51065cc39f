-- The change between two images, page by page.
use Rattle.std.proofs.Common.{◌≡◌, true, List, [], ◌∷◌, ◌++◌, length, inl, inr, refl, sym, ap, ◌∙◌, arith}
use Rattle.std.specs.Str.{bytes_eq}
use Rattle.std.proofs.lemmas.Bool.{cases_Bool, both_ways, and_from, cond-true}
use Rattle.std.proofs.lemmas.Slice.Eq.{bytes_eq-Decides}
use Rattle.dq_base.specs.declared.images.Image.{Image}
use Rattle.dq_base.specs.declared.pages.NumberedPage.{NumberedPage}
use Rattle.dq_base.specs.Applying.{applied}
use Rattle.dq_base.specs.Changes.{same_image, changed_from, numbers_above_one, sizes_of, changed}
use Rattle.dq_base.proofs.ChangeLaw.{applied_change}
use Rattle.sql_engine.specs.Meanings.{IsShort}
use Rattle.session_spec.specs.Engines.{no_pages}
use Rattle.session_spec.proofs.Images.{unchanged}

pub change_none : (a b : Image) → same_image a b ≡ true → changed a b ≡ []
unfolding changed
change_none a b same = cond-true (same_image a b) [] (changed_from 2 (numbers_above_one b) a b ++ sizes_of b ∷ []) same

pub applied_empty : (image : Image) (pages : List NumberedPage) → length pages ≡ 0 → image ≡ applied image pages
unfolding applied
applied_empty image [] e = refl
applied_empty image (p ∷ ps) e = absurd (omega arith)

same_test : (a b : Image) → a ≡ b → same_image a b ≡ true
same_test a b e =
    and_from (bytes_eq a.main b.main) (bytes_eq a.side b.side)
    ((bytes_eq-Decides a.main b.main).1 (ap (λ (i : Image). i.main) e)) ((bytes_eq-Decides a.side b.side).1 (ap (λ (i : Image). i.side) e))

-- a change leads from the one image to the other
pub change_leads : (a b : Image) → IsShort b → applied a (changed a b) ≡ b
change_leads a b short =
    elim (cases_Bool (same_image a b)) [
      | inl same ↦ ap (applied a) (change_none a b same) ∙ sym (applied_empty a [] refl) ∙ unchanged a b (ap no_pages (change_none a b same))
      | inr other ↦ applied_change a b (λ e. both_ways (same_image a b) other (same_test a b e)) short.main short.side
    ]
