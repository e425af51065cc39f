use Rattle.std.proofs.Common.{◌≤◌, length, arith}
use Rattle.node_core.proofs.OneChange.{lacks_more, lacks_none, none_further, other_length}
use Rattle.node_core.proofs.comparing.lacks_one.Goals as goal

pub returns-then-lacks_at : goal.returns-then-lacks_at
returns-then-lacks_at c = lacks_more c.loop-place.place c.args.fewer.now c.args.more.now c.loop-place-test.true (c.lacks_at.ensures.is c.if-lacks_at.true)

pub loop-place-preserved : goal.loop-place-preserved
loop-place-preserved c = none_further c.args.fewer.now c.args.more.now c.loop-place.place c.loop-place.invariant (c.lacks_at.ensures.not c.if-lacks_at.false)

pub returns-then-fewer-more : goal.returns-then-fewer-more
returns-then-fewer-more c = other_length c.args.fewer.now c.args.more.now (λ e. c.if-fewer-more.true (omega (arith, e)))

pub returns : goal.returns
returns c = lacks_none c.args.fewer.now c.args.more.now (λ i lt. c.loop-place.invariant i (let out : length c.args.more.now ≤ c.loop-place.place = c.loop-place-test.false in omega (arith, lt, out)))
