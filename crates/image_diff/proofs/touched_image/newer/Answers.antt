use Rattle.image_diff.proofs.Arriving.{newer_more, newer_all}
use Rattle.image_diff.proofs.touched_image.newer.Goals as goal

pub loop-page-preserved : goal.loop-page-preserved
loop-page-preserved c = newer_more c.args.before.now _ _ _ _ c.page-item.result _ c.loop-page-test.true c.page-item.is (rw (← c.page_at-old.ensures) c.in_ok-add_changed.ensures) c.loop-page.invariant

pub returns : goal.returns
returns c = newer_all _ _ _ _ _ c.loop-page-test.false c.loop-page.invariant
