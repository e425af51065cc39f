use Rattle.node_core.proofs.OneChange.{lacks_parts, back_parts}
use Rattle.node_core.proofs.comparing.lacks_at.Goals as goal

pub returns-then-not-are_alike-clause-not : goal.returns-then-not-are_alike-clause-not
returns-then-not-are_alike-clause-not c = λ e l. c.are_alike.ensures.differ c.if-not-are_alike.true l.front

pub returns-clause-is : goal.returns-clause-is
returns-clause-is c = λ e. lacks_parts c.args.place c.args.fewer.now c.args.more.now (c.are_alike.ensures.is c.if-not-are_alike.false) (c.are_alike-2.ensures.is e)

pub returns-clause-not : goal.returns-clause-not
returns-clause-not c = λ e l. c.are_alike-2.ensures.differ e (back_parts c.args.place c.args.fewer.now c.args.more.now l)
