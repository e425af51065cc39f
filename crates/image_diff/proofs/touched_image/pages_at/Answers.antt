use Rattle.std.proofs.Common.{get_or, refl}
use Rattle.image_diff.proofs.Arriving.{at_more, at_all}
use Rattle.image_diff.proofs.touched_image.pages_at.Goals as goal

pub loop-number-preserved : goal.loop-number-preserved
loop-number-preserved c = at_more _ _ _ _ _ (get_or c.args.numbers.now c.loop-number.number-index 0) 0 _ c.loop-number-test.true refl c.in_ok-add_page.ensures c.loop-number.invariant

pub returns : goal.returns
returns c = at_all _ _ _ _ _ c.loop-number-test.false c.loop-number.invariant
