use Rattle.std.proofs.Common.{◌≡◌, ◌-◌, List, length, refl, ap, ◌∙◌}
use Rattle.dq_base.specs.Images.{pages_in}
use Rattle.dq_base.specs.declared.sizes.Lengths.{Lengths}
use Rattle.dq_base.specs.declared.pages.NumberedPage.{NumberedPage}
use Rattle.sql_engine.specs.Cells.{wiped}
use Rattle.sql_engine.proofs.CellOutcomes.{short_wiped, tells_told}
use Rattle.sql_engine.proofs.cell_answers.wipe.Goals as goal

pub returns : goal.returns
returns c =
    let main : c.args.lengths.main ≡ length c.args.image.now.main = ap (λ (l : Lengths). l.main) c.requires.lengths in
    let gone : c.saturating_sub-affected.result ≡ pages_in c.args.image.now.main - c.args.pages = rw (c.saturating_sub-affected.ensures, c.pages_in.ensures, main) refl in
    tells_told c.args.image.now (wiped c.args.image.now c.args.pages) c.args.tx (pages_in c.args.image.now.main - c.args.pages) c.told.result
    (short_wiped c.args.image.now c.args.pages c.requires.short)
    (c.told.ensures.after ∙ ap (λ (ps : List NumberedPage). record { tx = c.args.tx; pages = ps }) c.in_ok-changes.ensures)
    (c.told.ensures.affected ∙ gone) c.told.ensures.columns c.told.ensures.rows
