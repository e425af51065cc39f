use Rattle.std.proofs.Common.{◌≡◌, length, None, refl, ◌∙◌, arith}
use Rattle.std.proofs.lemmas.List.{length-set}
use Rattle.std.proofs.lemmas.List.Elements.{AllWithin-more_set, AllWithin-upto, All-from_all_within}
use Rattle.sqlite_engine.specs.declared.open_images.OpenImage.{OpenImage}
use Rattle.sqlite_engine.proofs.OpenImages.{none_known}
use Rattle.sqlite_engine.proofs.open_images.forget.Goals as goal

abbrev Unnumbered : OpenImage → Type 0
Unnumbered it = it.number ≡ None

pub loop-at-preserved : goal.loop-at-preserved
loop-at-preserved c =
    (length-set c.loop-at.list c.loop-at.at _ ∙ c.loop-at.invariant.0, AllWithin-more_set c.loop-at.list c.loop-at.at _ (omega (arith, c.loop-at.invariant.0)) Unnumbered c.loop-at.invariant.1 refl)

pub returns : goal.returns
returns c =
    none_known c.loop-at.list
    (All-from_all_within Unnumbered c.loop-at.list (AllWithin-upto Unnumbered c.loop-at.list 0 c.loop-at.at (length c.loop-at.list) (omega (arith, c.loop-at.invariant.0)) c.loop-at.invariant.1))
