use Rattle.std.proofs.Common.{◌≡◌, take}
use Rattle.segment_store.specs.Keeping.{segment_names}
use Rattle.segment_store.proofs.keep_plan.segment_names.Given as goal

abbrev pub invariant-loop-number : goal.invariant-loop-number
invariant-loop-number l = l.names.items ≡ segment_names (take l.number-index l.numbers)
