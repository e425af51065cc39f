use Rattle.std.proofs.Common.{List, refl, sym, ap, ◌∙◌}
use Rattle.dq_base.specs.declared.pages.NumberedPage.{NumberedPage}
use Rattle.sql_engine.specs.Cells.{cell_rows}
use Rattle.sql_engine.proofs.ChangeLists.{changed_none}
use Rattle.sql_engine.proofs.CellOutcomes.{tells_read}
use Rattle.sql_engine.proofs.cell_answers.get.Goals as goal

pub returns : goal.returns
returns c =
    tells_read c.args.image.now c.args.page c.args.tx
    (record { after = record { tx = c.args.tx; pages = c.new-2.result }; affected = 0; columns = c.new-3.result; rows = c.new-4.result })
    c.requires.short
    (ap (λ (ps : List NumberedPage). record { tx = c.args.tx; pages = ps }) (c.new-2.ensures ∙ c.new.ensures.items ∙ sym (changed_none c.args.image.now)))
    refl
    (c.new-3.ensures ∙ c.in_ok-columns.ensures)
    (c.new-4.ensures ∙ c.in_ok-rows.ensures ∙ ap cell_rows c.page_at.ensures)
