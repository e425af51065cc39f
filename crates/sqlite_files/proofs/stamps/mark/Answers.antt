use Rattle.std.proofs.Common.{◌<◌, ◌∙◌, length, arith, subst, sym}
use Rattle.sqlite_files.proofs.StampedPages.{stamp_keeps, stamp_covers, stamp_counts}
use Rattle.sqlite_files.proofs.stamps.mark.Goals as goal

pub loop-page-preserved : goal.loop-page-preserved
loop-page-preserved c =
    let within : c.loop-page.page < length c.loop-page.stamps = omega arith in
    record {
      keeps = λ p low.
          let same = stamp_keeps c.loop-page.stamps c.loop-page.page p c.args.stamp within low in
          c.loop-page.invariant.keeps p (subst (λ s. s < c.args.stamp) (sym same) low) ∙ same;
      covers = λ p first below. stamp_covers c.loop-page.stamps c.loop-page.page p c.args.stamp within (c.loop-page.invariant.covers p first) below;
      count = omega (arith, stamp_counts c.loop-page.stamps c.loop-page.page c.args.stamp within, c.loop-page.invariant.count);
    }
