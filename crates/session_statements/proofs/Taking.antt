-- Pages that are taken or not.
use Rattle.std.proofs.Common.{◌≡◌, Bool, true, false, List, [], ◌∷◌, length, Option, refl, sym, ap, ◌∙◌, arith}
use Rattle.std.specs.Prelude.{◌==◌, is_none}
use Rattle.std.proofs.lemmas.Bool.{both_ways, eqb-true}
use Rattle.dq_base.specs.declared.pages.NumberedPage.{NumberedPage}
use Rattle.dq_base.specs.declared.page_fault.PageFault.{PageFault}
use Rattle.dq_base.specs.Applying.{page_fault}
use Rattle.session_spec.specs.Engines.{takes}

pub empty_taken : (pages : List NumberedPage) (is_empty : Bool) → is_empty ≡ (length pages == 0) → is_empty ≡ true → true ≡ takes pages
unfolding takes
empty_taken [] is_empty is e = refl
empty_taken (p ∷ ps) is_empty is e = let none : length (p ∷ ps) ≡ 0 = eqb-true (length (p ∷ ps)) 0 (sym is ∙ e) in absurd (omega arith)

pub some_taken : (pages : List NumberedPage) (is_empty : Bool) (fault : Option PageFault) → is_empty ≡ (length pages == 0) → is_empty ≡ false → page_fault pages ≡ fault → is_none fault ≡ takes pages
unfolding takes
some_taken [] is_empty fault is e found = absurd (both_ways is_empty e is)
some_taken (p ∷ ps) is_empty fault is e found = ap is_none (sym found)
