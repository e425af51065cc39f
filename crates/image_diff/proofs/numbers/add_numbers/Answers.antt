use Rattle.image_diff.proofs.Arriving.{numbers_more, numbers_all}
use Rattle.image_diff.proofs.numbers.add_numbers.Goals as goal

pub loop-page-preserved : goal.loop-page-preserved
loop-page-preserved c = numbers_more _ _ _ _ c.page-item.result _ c.loop-page-test.true c.page-item.is c.in_ok-add_number.ensures c.loop-page.invariant

pub returns : goal.returns
returns c = numbers_all _ _ _ _ c.loop-page-test.false c.loop-page.invariant
