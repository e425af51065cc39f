use Rattle.image_diff.proofs.ListedPages.{listed_next, listed_all}
use Rattle.image_diff.proofs.shown.changed_at.Goals as goal

pub loop-number-preserved : goal.loop-number-preserved
loop-number-preserved g c =
    listed_next (g.P.ImagePages.image c.args.earlier.now) c.args.after.now c.args.numbers.now c.loop-number.number-index _ _ _ c.loop-number-test.true
    (rw (← c.page-before.ensures, ← c.page_at.ensures) c.in_ok-add_changed.ensures) c.loop-number.invariant

pub returns : goal.returns
returns g c = listed_all (g.P.ImagePages.image c.args.earlier.now) c.args.after.now c.args.numbers.now c.loop-number.number-index _ _ c.loop-number-test.false c.loop-number.invariant
