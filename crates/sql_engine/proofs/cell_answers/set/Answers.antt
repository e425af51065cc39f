use Rattle.std.proofs.Common.{List, ap, ◌∙◌}
use Rattle.dq_base.specs.declared.pages.NumberedPage.{NumberedPage}
use Rattle.sql_engine.specs.Cells.{with_cell}
use Rattle.sql_engine.proofs.CellOutcomes.{short_cell, tells_told}
use Rattle.sql_engine.proofs.cell_answers.set.Goals as goal

pub returns : goal.returns
returns c =
    tells_told c.args.image.now (with_cell c.args.image.now c.args.page c.args.value) c.args.tx 1 c.told.result
    (short_cell c.args.image.now c.args.page c.args.value c.requires.short c.requires.page.1)
    (c.told.ensures.after ∙ ap (λ (ps : List NumberedPage). record { tx = c.args.tx; pages = ps }) c.in_ok-pages.ensures)
    c.told.ensures.affected c.told.ensures.columns c.told.ensures.rows
