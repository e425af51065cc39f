use Rattle.std.proofs.Common.{[]}
use Rattle.image_diff.specs.Touched.{put_in_order}
use Rattle.image_diff.proofs.InOrder.{put_one}
use Rattle.image_diff.proofs.numbers.set_of.Goals as goal

pub loop-number-preserved : goal.loop-number-preserved
loop-number-preserved c =
    let numbers = c.args.numbers.now in
    put_one c.loop-number.number-index numbers c.loop-number.set.keys c.insert.new.self.keys (put_in_order [] numbers)
    c.loop-number-test.true c.in_ok-insert.ensures.keys c.loop-number.invariant
