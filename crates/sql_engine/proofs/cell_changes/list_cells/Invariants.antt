use Rattle.std.proofs.Common.{◌≡◌, ◌-◌, ◌++◌}
use Rattle.sql_engine.specs.CellChanges.{cells_from}
use Rattle.sql_engine.proofs.cell_changes.list_cells.Given as goal

abbrev pub invariant-loop-index : goal.invariant-loop-index
invariant-loop-index l =
    l.pages.items ++ cells_from l.image l.page l.value l.index (l.until - l.index)
    ≡ l.fn.pages.items ++ cells_from l.image l.page l.value l.from (l.until - l.from)
