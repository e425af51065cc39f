use Rattle.std.proofs.Common.{◌≡◌, drop}
use Rattle.page_store.specs.Marks.{least_from, least_mark}
use Rattle.page_store.proofs.marks.least_of.Given as goal

abbrev pub invariant-loop-mark : goal.invariant-loop-mark
invariant-loop-mark l = least_from l.least (drop l.mark-index l.table) ≡ least_mark l.table
