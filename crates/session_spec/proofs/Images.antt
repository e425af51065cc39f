-- Images and the pages that lead from one to another.
use Rattle.std.proofs.Common.{◌≡◌, true, false, true≢false, List, [], ◌∷◌, ◌++◌, refl, sym, ap, ◌∙◌, subst, ⊎_elim}
use Rattle.std.specs.Prelude.{is_none}
use Rattle.std.specs.Str.{bytes_eq}
use Rattle.std.proofs.lemmas.Bool.{cases_Bool, cond-true, and_parts, and_from, or_cases}
use Rattle.std.proofs.lemmas.Slice.Eq.{bytes_eq-Decides}
use Rattle.dq_base.specs.declared.images.Image.{Image}
use Rattle.dq_base.specs.declared.pages.NumberedPage.{NumberedPage}
use Rattle.dq_base.specs.Changes.{same_image, changed_from, numbers_above_one, sizes_of, changed}
use Rattle.dq_base.specs.Applying.{applied, page_fault, fault_before}
use Rattle.dq_base.proofs.ChangeLaw.{same_images, changed_is, applied_change}
use Rattle.sql_engine.specs.Meanings.{IsShort}
use Rattle.database_state.specs.Files.{image_after}
use Rattle.session_spec.specs.Engines.{no_pages, takes}

same_is : (a b : Image) → same_image a b ≡ true → a ≡ b
same_is a b e = let p = and_parts (bytes_eq a.main b.main) (bytes_eq a.side b.side) e in same_images a b ((bytes_eq-Decides a.main b.main).0 p.0) ((bytes_eq-Decides a.side b.side).0 p.1)

same_self : (x : Image) → same_image x x ≡ true
same_self x = and_from (bytes_eq x.main x.main) (bytes_eq x.side x.side) ((bytes_eq-Decides x.main x.main).1 refl) ((bytes_eq-Decides x.side x.side).1 refl)

differ : (a b : Image) → same_image a b ≡ false → a ≡ b → ⊥
differ a b e q = true≢false (sym (subst (λ x. same_image a x ≡ true) q (same_self a)) ∙ e)

none_same : (a b : Image) → same_image a b ≡ true → changed a b ≡ []
unfolding changed
none_same a b e = cond-true (same_image a b) [] _ e

some_pages : (xs : List NumberedPage) (p : NumberedPage) → no_pages (xs ++ p ∷ []) ≡ false
some_pages [] p = refl
some_pages (x ∷ xs) p = refl

-- if a change has no pages, nothing changed
pub unchanged : (a b : Image) → no_pages (changed a b) ≡ true → a ≡ b
unchanged a b e = ⊎_elim (λ (x : same_image a b ≡ true). same_is a b x)
    (λ (x : same_image a b ≡ false). absurd (true≢false (sym e ∙ ap no_pages (changed_is a b (differ a b x)) ∙ some_pages (changed_from 2 (numbers_above_one b) a b) (sizes_of b))))
    (cases_Bool (same_image a b))

-- an image leads to itself by no pages
pub changed_same : (a : Image) → no_pages (changed a a) ≡ true
changed_same a = ap no_pages (none_same a a (same_self a))

-- a change that can be applied leads to the later image
pub apply_changed : (a b : Image) → IsShort b → takes (changed a b) ≡ true → image_after a (changed a b) ≡ b
unfolding takes fault_before
apply_changed a b short t = ⊎_elim
    (λ (x : same_image a b ≡ true). ap (image_after a) (none_same a b x) ∙ same_is a b x)
    (λ (x : same_image a b ≡ false).
    let d = differ a b x in
    let some : no_pages (changed a b) ≡ false = ap no_pages (changed_is a b d) ∙ some_pages (changed_from 2 (numbers_above_one b) a b) (sizes_of b) in
    let ok : is_none (page_fault (changed a b)) ≡ true = ⊎_elim (λ (y : no_pages (changed a b) ≡ true). absurd (true≢false (sym y ∙ some))) (λ (y : is_none (page_fault (changed a b)) ≡ true). y) (or_cases (no_pages (changed a b)) (is_none (page_fault (changed a b))) t) in
    cond-true (is_none (page_fault (changed a b))) (applied a (changed a b)) a ok ∙ applied_change a b d short.main short.side)
    (cases_Bool (same_image a b))
