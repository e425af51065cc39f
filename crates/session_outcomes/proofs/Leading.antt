-- The pages of a change lead to its image.
use Rattle.std.proofs.Common.{◌≡◌, ◌<◌, ◌^◌, Bool, true, bytes_eq, List, [], ◌∷◌, ◌++◌, length, ◌&&◌, inl, inr, sym, ap, subst, ◌∙◌}
use Rattle.std.proofs.lemmas.Bool.{cases_Bool, cond-true, both_ways}
use Rattle.std.proofs.lemmas.Slice.Eq.{bytes_eq-Decides}
use Rattle.dq_base.specs.declared.images.Image.{Image}
use Rattle.dq_base.specs.declared.pages.NumberedPage.{NumberedPage}
use Rattle.dq_base.specs.Applying.{fault_before}
use Rattle.dq_base.specs.Changes.{same_image, changed_from, numbers_above_one, sizes_of, changed}
use Rattle.dq_base.proofs.ChangeLaw.{applied_change}
use Rattle.session_outcomes.specs.Hindered.{LeadsTo}
use Rattle.session_outcomes.proofs.ChangeSizes.{change_sizes}

same_to_itself : (a b : Image) → a ≡ b → same_image a b ≡ true
same_to_itself a b e =
    ap (λ (x : Bool). x && bytes_eq a.side b.side) ((bytes_eq-Decides a.main b.main).1 (ap (λ (image : Image). image.main) e)) ∙ (bytes_eq-Decides a.side b.side).1 (ap (λ (image : Image). image.side) e)

nothing_leads : (b : Image) → LeadsTo [] b
unfolding fault_before
nothing_leads b = λ taken. absurd (cc taken)

-- a change leads to the later image
pub change_leads : (a b : Image) → length b.main < 2 ^ 64 → length b.side < 2 ^ 64 → LeadsTo (changed a b) b
unfolding changed
change_leads a b main side = elim (cases_Bool (same_image a b)) [
  | inl same ↦ subst (λ (pages : List NumberedPage). LeadsTo pages b) (sym (cond-true (same_image a b) [] (changed_from 2 (numbers_above_one b) a b ++ sizes_of b ∷ []) same)) (nothing_leads b)
  | inr other ↦ λ taken. (change_sizes a b, (a, applied_change a b (λ e. both_ways (same_image a b) other (same_to_itself a b e)) main side))
]
