use Rattle.std.proofs.Common.{sym, ◌∙◌}
use Rattle.node_core.proofs.OneChange.{alike_near, more_near, last_near}
use Rattle.node_core.proofs.comparing.are_near.Goals as goal

pub returns-then-are_alike : goal.returns-then-are_alike
returns-then-are_alike c = alike_near c.args.ones.now c.args.others.now (c.are_alike.ensures.is c.if-are_alike.true)

pub returns-then-lacks_one : goal.returns-then-lacks_one
returns-then-lacks_one c = more_near c.args.ones.now c.args.others.now (sym c.lacks_one.ensures ∙ c.if-lacks_one.true)

pub returns : goal.returns
returns c = last_near c.args.ones.now c.args.others.now c.lacks_one-2.result (c.are_alike.ensures.differ c.if-are_alike.false) (sym c.lacks_one.ensures ∙ c.if-lacks_one.false) c.lacks_one-2.ensures
