use Rattle.std.proofs.Common.{◌++◌, ◌-◌}
use Rattle.sql_engine.specs.CellChanges.{cells_from}
use Rattle.sql_engine.proofs.CellSteps.{cells_more, cells_all}
use Rattle.sql_engine.proofs.cell_changes.list_cells.Goals as goal

pub loop-index-preserved : goal.loop-index-preserved
loop-index-preserved c =
    cells_more c.args.image.now c.args.page c.args.value c.loop-index.index c.args.until c.new_page.result c.loop-index.pages.items c.list_page.new.pages.items
    (c.args.pages.now.items ++ cells_from c.args.image.now c.args.page c.args.value c.args.from (c.args.until - c.args.from))
    c.loop-index-test.true c.new_page.ensures c.in_ok-list_page.ensures c.loop-index.invariant

pub returns : goal.returns
returns c =
    cells_all c.args.image.now c.args.page c.args.value c.loop-index.index c.args.until c.loop-index.pages.items
    (c.args.pages.now.items ++ cells_from c.args.image.now c.args.page c.args.value c.args.from (c.args.until - c.args.from))
    c.loop-index-test.false c.loop-index.invariant
