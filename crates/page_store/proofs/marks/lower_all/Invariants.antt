use Rattle.std.proofs.Common.{◌≡◌, ◌++◌, map, take, drop}
use Rattle.page_store.specs.Marks.{lowered_mark}
use Rattle.page_store.proofs.marks.lower_all.Given as goal

abbrev pub invariant-loop-mark : goal.invariant-loop-mark
invariant-loop-mark l = take l.mark-index l.table ++ map (lowered_mark l.by) (drop l.mark-index l.table) ≡ map (lowered_mark l.by) l.initial.table
