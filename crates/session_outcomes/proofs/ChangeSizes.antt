-- The pages of a change have their bytes.
use Rattle.std.proofs.Common.{◌≡◌, ℕ, zero, suc, Bool, true, false, cond, bytes_eq, List, [], ◌∷◌, ◌++◌, length, Option, Some, None, refl, sym, ap, ◌∙◌}
use Rattle.std.specs.Prelude.{◌==◌}
use Rattle.std.specs.List.{AllByRecursion}
use Rattle.dq_base.specs.declared.images.Image.{Image}
use Rattle.dq_base.specs.declared.pages.NumberedPage.{NumberedPage}
use Rattle.dq_base.specs.Images.{page_at, page_from, page_start, file_of, sizes_page, reaches}
use Rattle.dq_base.specs.Changes.{same_image, changed_page, changed_from, numbers_above_one, sizes_of, changed}
use Rattle.dq_base.proofs.ChangeLaw.{length-sizes_page}
use Rattle.dq_base.proofs.FileBytes.{length-page_from}
use Rattle.log_commands.specs.Spelling.{HaveSizes}
use Rattle.session_table.proofs.Releasing.{all_both}

abbrev HasSize : NumberedPage → Type 0
HasSize p = length p.page ≡ 4096

size_at : (image : Image) (n : ℕ) (page : List ℕ) → page_at image n ≡ Some page → length page ≡ 4096
unfolding page_at
size_at image n page e = by (n == 1) (reaches image n) e
  where
    by : (one there : Bool) → cond one (Some (sizes_page (length image.main) (length image.side))) (cond there (Some (page_from (file_of image n) (page_start n))) None) ≡ Some page → length page ≡ 4096
    by true there f = let same : sizes_page (length image.main) (length image.side) ≡ page = cc in ap length (sym same) ∙ length-sizes_page (length image.main) (length image.side)
    by false true f = let same : page_from (file_of image n) (page_start n) ≡ page = cc in ap length (sym same) ∙ length-page_from (file_of image n) (page_start n)
    by false false f = absurd cc

sizes_one : (n : ℕ) (old new : Option (List ℕ)) → ((page : List ℕ) → new ≡ Some page → length page ≡ 4096) → AllByRecursion HasSize (changed_page n old new)
sizes_one n old None sized = tt
sizes_one n None (Some page) sized = (sized page refl, tt)
sizes_one n (Some was) (Some page) sized = elim (bytes_eq was page) as (λ (b : Bool). AllByRecursion HasSize (cond b [] (record { number = n; page = page } ∷ []))) [
  | true ↦ tt
  | false ↦ (sized page refl, tt)
]

sizes_from : (n count : ℕ) (a b : Image) → AllByRecursion HasSize (changed_from n count a b)
unfolding changed_from
sizes_from n zero a b = tt
sizes_from n (suc count) a b = all_both HasSize (changed_page n (page_at a n) (page_at b n)) (changed_from (suc n) count a b) (sizes_one n (page_at a n) (page_at b n) (size_at b n)) (sizes_from (suc n) count a b)

pub change_sizes : (a b : Image) → HaveSizes (changed a b)
unfolding changed
change_sizes a b = elim (same_image a b) as (λ (same : Bool). AllByRecursion HasSize (cond same [] (changed_from 2 (numbers_above_one b) a b ++ sizes_of b ∷ []))) [
  | true ↦ tt
  | false ↦ all_both HasSize (changed_from 2 (numbers_above_one b) a b) (sizes_of b ∷ []) (sizes_from 2 (numbers_above_one b) a b) (length-sizes_page (length b.main) (length b.side), tt)
]
