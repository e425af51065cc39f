use Rattle.dq_base.specs.Applying.{order_fault}
use Rattle.dq_base.proofs.Steps.{order_refused, order_more, order_all}
use Rattle.dq_base.proofs.set_checks.check_order.Goals as goal

pub returns-then-page-before : goal.returns-then-page-before
returns-then-page-before c =
    order_refused c.loop-page.before c.loop-page.page-index c.args.front.now c.page-item.result (order_fault 1 c.args.front.now) c.loop-page-test.true c.page-item.is c.if-page-before.true c.loop-page.invariant

pub loop-page-preserved : goal.loop-page-preserved
loop-page-preserved c =
    order_more c.loop-page.before c.loop-page.page-index c.args.front.now c.page-item.result (order_fault 1 c.args.front.now) c.loop-page-test.true c.page-item.is c.if-page-before.false c.loop-page.invariant

pub returns : goal.returns
returns c = order_all c.loop-page.before c.loop-page.page-index c.args.front.now (order_fault 1 c.args.front.now) c.loop-page-test.false c.loop-page.invariant
