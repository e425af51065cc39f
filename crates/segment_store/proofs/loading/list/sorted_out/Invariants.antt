use Rattle.std.proofs.Common.{take}
use Rattle.segment_store.specs.Listed.{SortedOut}
use Rattle.segment_store.proofs.loading.list.sorted_out.Given as goal

abbrev pub invariant-loop-name : goal.invariant-loop-name
invariant-loop-name l = SortedOut (take l.name-index l.names) l.list
