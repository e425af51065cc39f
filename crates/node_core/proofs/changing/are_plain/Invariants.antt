use Rattle.std.proofs.Common.{take}
use Rattle.node_core.proofs.OneChange.{ArePlain}
use Rattle.node_core.proofs.changing.are_plain.Given as goal

abbrev pub invariant-loop-entry : goal.invariant-loop-entry
invariant-loop-entry l = ArePlain (take l.entry-index l.entries)
