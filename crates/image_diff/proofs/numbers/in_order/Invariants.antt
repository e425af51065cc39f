use Rattle.std.proofs.Common.{◌≡◌}
use Rattle.image_diff.proofs.numbers.in_order.Given as goal

abbrev pub invariant-loop-number : goal.invariant-loop-number
invariant-loop-number l = l.list.items ≡ l.yielded
