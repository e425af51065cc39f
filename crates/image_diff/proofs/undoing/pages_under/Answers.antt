use Rattle.image_diff.proofs.ComingBack.{under_more, under_all}
use Rattle.image_diff.proofs.undoing.pages_under.Goals as goal

pub loop-page-preserved : goal.loop-page-preserved
loop-page-preserved c = under_more _ _ _ _ _ c.page-item.result _ c.loop-page-test.true c.page-item.is c.in_ok-add_under.ensures c.loop-page.invariant

pub returns : goal.returns
returns c = under_all _ _ _ _ _ c.loop-page-test.false c.loop-page.invariant
