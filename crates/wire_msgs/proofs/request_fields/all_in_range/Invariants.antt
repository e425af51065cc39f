use Rattle.std.proofs.Common.{take}
use Rattle.std.specs.List.{AllByRecursion}
use Rattle.wire_words.specs.Values.{IsInRange}
use Rattle.wire_msgs.proofs.request_fields.all_in_range.Given as goal

abbrev pub invariant-loop-value : goal.invariant-loop-value
invariant-loop-value l = AllByRecursion IsInRange (take l.value-index l.values)
