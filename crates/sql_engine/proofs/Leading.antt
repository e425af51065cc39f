-- The pages of an answer lead from the image to the one that the statement leaves.
use Rattle.std.proofs.Common.{◌≡◌, ◌^◌, ◌<◌, true, [], ◌++◌, ◌∷◌, length, refl, ap, ◌∙◌, inl, inr}
use Rattle.std.specs.Str.{bytes_eq}
use Rattle.std.proofs.lemmas.Bool.{cases_Bool, both_ways, and_parts, and_from, cond-true}
use Rattle.std.proofs.lemmas.Slice.Eq.{bytes_eq-Decides}
use Rattle.dq_base.specs.declared.images.Image.{Image}
use Rattle.dq_base.specs.declared.pages.PageSet.{PageSet}
use Rattle.dq_base.specs.Changes.{same_image, changed_from, numbers_above_one, sizes_of, changed}
use Rattle.dq_base.specs.Applying.{applied}
use Rattle.dq_base.proofs.ChangeLaw.{same_images, applied_change}
use Rattle.sql_engine.specs.Meanings.{Meaning}
use Rattle.sql_engine.specs.Runs.{LeadsOn}

applied_none : (a : Image) → applied a [] ≡ a
unfolding applied
applied_none a = refl

unchanged : (a b : Image) → same_image a b ≡ true → changed a b ≡ []
unfolding changed
unchanged a b same = cond-true (same_image a b) [] (changed_from 2 (numbers_above_one b) a b ++ sizes_of b ∷ []) same

alike : (a b : Image) → same_image a b ≡ true → a ≡ b
alike a b same =
    let parts = and_parts (bytes_eq a.main b.main) (bytes_eq a.side b.side) same in
    same_images a b ((bytes_eq-Decides a.main b.main).0 parts.0) ((bytes_eq-Decides a.side b.side).0 parts.1)

alike_test : (a b : Image) → a ≡ b → same_image a b ≡ true
alike_test a b e =
    and_from (bytes_eq a.main b.main) (bytes_eq a.side b.side)
    ((bytes_eq-Decides a.main b.main).1 (ap (λ (i : Image). i.main) e)) ((bytes_eq-Decides a.side b.side).1 (ap (λ (i : Image). i.side) e))

-- the pages that two images differ in lead from one to the other
pub change_leads : (a b : Image) → length b.main < 2 ^ 64 → length b.side < 2 ^ 64 → applied a (changed a b) ≡ b
change_leads a b main_fits side_fits =
    elim (cases_Bool (same_image a b)) [
      | inl same ↦ ap (applied a) (unchanged a b same) ∙ applied_none a ∙ alike a b same
      | inr other ↦ applied_change a b (λ e. both_ways (same_image a b) other (alike_test a b e)) main_fits side_fits
    ]

pub leads_on : (m : Meaning) → LeadsOn m
leads_on m image s tx ran a =
    ap (λ (set : PageSet). applied image set.pages) a.pages ∙ change_leads image a.after a.short.main a.short.side
