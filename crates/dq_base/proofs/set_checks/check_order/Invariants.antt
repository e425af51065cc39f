use Rattle.std.proofs.Common.{◌≡◌, drop}
use Rattle.dq_base.specs.Applying.{order_fault}
use Rattle.dq_base.proofs.set_checks.check_order.Given as goal

abbrev pub invariant-loop-page : goal.invariant-loop-page
invariant-loop-page l = order_fault l.before (drop l.page-index l.front) ≡ order_fault 1 l.front
